pub mod Fault
pub mod Sliced
pub mod Slices
pub mod Questions
