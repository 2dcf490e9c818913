pub mod ObjectOperands
pub mod FilePlans
