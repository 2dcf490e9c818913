pub mod Operands
pub mod Places
pub mod Bounds
pub mod Lines
pub mod Turns
