pub mod Lanes
pub mod Groups
pub mod Walks
pub mod Cuts
pub mod Reclaiming
pub mod Phases
pub mod Inserting
