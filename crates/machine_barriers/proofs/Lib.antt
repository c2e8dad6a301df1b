pub mod Gains
pub mod Reaches
pub mod OpenedGroups
pub mod GoneGroups
pub mod GracePeriods
pub mod Barriers
