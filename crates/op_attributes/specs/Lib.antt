pub mod Holders
pub mod Methods
pub mod Owns
