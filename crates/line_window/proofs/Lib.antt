pub mod Quotients
pub mod Guesses
pub mod Rising
pub mod Counts
pub mod Halvings
pub mod Windows
