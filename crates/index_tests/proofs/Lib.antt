pub mod OneGroups
pub mod Groups
pub mod Places
pub mod Linking
pub mod Keepers
