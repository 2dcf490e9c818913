pub mod Opening
pub mod Handlers
