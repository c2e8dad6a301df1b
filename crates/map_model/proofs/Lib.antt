pub mod Pairs
pub mod Places
pub mod Makings
pub mod Answering
pub mod Histories
pub mod Logging
