pub mod OneSlice
mod Extracted
mod Sliced
pub mod Questions
