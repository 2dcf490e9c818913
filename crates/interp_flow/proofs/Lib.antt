pub mod Endings
pub mod Returns
pub mod Making
