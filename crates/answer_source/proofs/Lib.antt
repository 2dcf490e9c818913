pub mod Going
pub mod Fitting
pub mod Keeping
pub mod Fetching
pub mod Replaying
