pub mod NoRebuild
pub mod NoRebuildLaws
pub mod Resting
pub mod Reading
