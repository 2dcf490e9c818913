pub mod Levels
pub mod Lines
pub mod Putting
pub mod Rows
pub mod Stepping
pub mod Walking
