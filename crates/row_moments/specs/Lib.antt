pub mod InOrder
pub mod IndexKnows
pub mod IndexPlaces
pub mod Moments
pub mod NestedRows
pub mod RowOccurrences
