pub mod Lists
pub mod Opened
pub mod Places
pub mod Keys
pub mod Shares
pub mod Ranges
pub mod Changes
pub mod Sizes
