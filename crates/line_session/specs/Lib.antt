pub mod Ends
pub mod Session
pub mod Asked
pub mod Served
pub mod Memory
pub mod Laws
pub mod Texts
pub mod Enough
