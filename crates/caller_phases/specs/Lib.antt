pub mod Calls
pub mod Explained
pub mod Enough
pub mod Workers
pub mod Telling
pub mod Ran
