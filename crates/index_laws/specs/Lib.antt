pub mod AloneAnswers
pub mod Undisturbed
