mod AloneAnswers
mod OwnEvents
mod Undisturbed
