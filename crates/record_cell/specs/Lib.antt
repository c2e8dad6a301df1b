pub mod Conditions
pub mod Finding
pub mod Reads
pub mod Writes
pub mod Locking
pub mod Reviving
