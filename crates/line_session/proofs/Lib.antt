pub mod Known
pub mod Sessions
pub mod Endings
pub mod OneText
pub mod Carrying
pub mod Weighing
