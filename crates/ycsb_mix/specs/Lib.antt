pub mod Choice
pub mod Draws
pub mod Mix
