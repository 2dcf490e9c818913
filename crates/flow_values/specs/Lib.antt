pub mod Step
pub mod Value
pub mod Calls
pub mod Expression
