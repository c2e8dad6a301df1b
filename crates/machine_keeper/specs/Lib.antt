pub mod Marks
pub mod Keeper
pub mod Staying
pub mod Clearing
