pub mod Children
pub mod Counts
pub mod Forms
pub mod Held
pub mod Orders
pub mod Things
