pub mod Operands
pub mod Table
