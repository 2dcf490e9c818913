pub mod Kept
pub mod Steps
pub mod Leaves
pub mod Settled
pub mod HeldStore
pub mod Finding
pub mod ValueTexts
