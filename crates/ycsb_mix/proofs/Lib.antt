pub mod Strides
pub mod ChoiceLaws
pub mod DrawLaws
pub mod StepLaws
pub mod LineLaws
