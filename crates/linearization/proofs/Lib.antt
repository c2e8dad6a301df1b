pub mod Agreeing
pub mod OwnEntries
pub mod WholeLogs
