pub mod Changes
pub mod Starting
pub mod Breaking
pub mod ItemsOf
