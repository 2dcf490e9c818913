pub mod Heads
pub mod Operands
