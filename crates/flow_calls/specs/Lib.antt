pub mod Calling
pub mod Choosing
pub mod Walking
