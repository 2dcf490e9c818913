pub mod Recorded
pub mod Sound
