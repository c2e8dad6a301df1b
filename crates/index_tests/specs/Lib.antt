pub mod Boards
pub mod Buffers
pub mod Calls
