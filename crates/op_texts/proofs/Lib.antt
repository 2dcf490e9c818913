pub mod Counted
pub mod Endings
pub mod Fronts
pub mod Places
pub mod Taken
pub mod White
