pub mod Classes
pub mod Closed
pub mod Edges
pub mod Reached
pub mod Slices
pub mod SetItems
