pub mod Shown
pub mod Functions
pub mod Details
pub mod Shows
