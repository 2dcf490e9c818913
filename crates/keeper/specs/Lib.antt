pub mod Batch
pub mod Count
pub mod Fault
pub mod Keeping
pub mod Tables
