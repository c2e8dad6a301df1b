pub mod Walks
pub mod Searching
pub mod Following
pub mod Inserting
pub mod Counting
