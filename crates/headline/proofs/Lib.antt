pub mod Composed
pub mod Replaying
pub mod Undamaged
