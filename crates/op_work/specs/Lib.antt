pub mod Entries
pub mod Exceptions
pub mod Finish
pub mod Raise
pub mod Turns
pub mod Work
