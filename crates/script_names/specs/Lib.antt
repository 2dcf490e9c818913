pub mod Scopes
pub mod Finding
