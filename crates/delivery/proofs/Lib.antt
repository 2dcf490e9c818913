pub mod Delivering
pub mod Finishing
pub mod Putting
pub mod Reading
pub mod Standing
pub mod Ways
