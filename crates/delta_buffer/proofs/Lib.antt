pub mod CallSteps
pub mod Links
pub mod Following
pub mod Stepping
pub mod Linking
pub mod Carrying
pub mod KeyCounts
mod RowWalks
pub mod LaneCounts
