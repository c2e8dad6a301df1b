mod RowCounting
pub mod UsedRows
