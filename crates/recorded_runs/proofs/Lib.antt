pub mod Each
pub mod Joining
pub mod Alike
