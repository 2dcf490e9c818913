pub mod Asks
pub mod Binder
pub mod Counts
pub mod Frames
pub mod HasAsked
pub mod Reading
pub mod Writers
