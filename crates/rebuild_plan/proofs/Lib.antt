pub mod Rounding
pub mod Parts
pub mod SharesLaws
pub mod RootLaws
pub mod LaneLaws
pub mod KeyLaws
pub mod PlanLaws
