pub mod Roles
pub mod Versions
pub mod Buffers
pub mod Redirects
pub mod Targets
pub mod Readers
