pub mod Standing
pub mod Walks
pub mod Slots
pub mod Finding
pub mod Ends
