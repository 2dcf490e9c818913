pub mod Gathering
pub mod Heads
pub mod Stepping
pub mod Staying
