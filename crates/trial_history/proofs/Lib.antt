pub mod Columns
pub mod Marked
pub mod OneWay
pub mod Putting
pub mod Restored
pub mod Stopping
pub mod Written
