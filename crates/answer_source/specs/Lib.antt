pub mod Sources
pub mod Going
pub mod Live
pub mod Kept
