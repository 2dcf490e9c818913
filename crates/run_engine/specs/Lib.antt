pub mod Run
pub mod Bare
pub mod Over
