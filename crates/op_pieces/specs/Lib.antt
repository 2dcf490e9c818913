pub mod Counted
pub mod Parts
pub mod Pieces
pub mod Joins
pub mod Puts
