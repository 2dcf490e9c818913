pub mod Contents
pub mod Fault
