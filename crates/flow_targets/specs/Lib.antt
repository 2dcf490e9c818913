pub mod Changing
pub mod Spreading
