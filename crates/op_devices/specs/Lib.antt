pub mod Asking
pub mod Draws
pub mod Given
pub mod Opening
