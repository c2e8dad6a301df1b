pub mod Cuts
pub mod Replying
pub mod Hearing
pub mod Working
pub mod Running
pub mod Closed
pub mod Sums
pub mod Enough
