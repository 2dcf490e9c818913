pub mod Calls
pub mod DoneMap
pub mod Handlers
pub mod Links
pub mod Taken
pub mod Takings
