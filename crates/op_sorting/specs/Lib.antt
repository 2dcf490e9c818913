pub mod Meetings
pub mod Merging
pub mod Orders
