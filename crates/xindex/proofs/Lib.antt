pub mod LimitLaws
pub mod Sessions
pub mod EnoughSessions
pub mod Endings
pub mod Completing
pub mod Runs
pub mod Counting
