pub mod PlainLaw
