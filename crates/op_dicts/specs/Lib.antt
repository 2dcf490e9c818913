pub mod Founds
pub mod Operands
pub mod Receivers
