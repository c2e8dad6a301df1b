pub mod Forms
pub mod LiveValues
pub mod Agreement
pub mod LivePlaces
pub mod FromOpening
pub mod RowCounts
