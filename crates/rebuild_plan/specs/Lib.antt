pub mod Plan
pub mod Keys
