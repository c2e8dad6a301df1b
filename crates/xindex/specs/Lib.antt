pub mod Telling
pub mod Ran
pub mod Generated
pub mod Completing
pub mod Outcome
pub mod Served
