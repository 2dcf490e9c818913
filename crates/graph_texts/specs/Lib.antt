pub mod Named
pub mod Reads
pub mod Seen
pub mod Steps
