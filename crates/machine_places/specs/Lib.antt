pub mod Agreement
pub mod RowCounts
