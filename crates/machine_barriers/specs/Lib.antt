pub mod Gains
pub mod Barriers
pub mod GoneGroups
