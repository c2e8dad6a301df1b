mod Rules
pub mod KeySpace
pub mod PartGroups
mod KeptBounds
mod NamedAddresses
pub mod WordNames
pub mod RowPlaces
pub mod SameWords
