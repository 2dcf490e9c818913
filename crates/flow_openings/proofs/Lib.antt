pub mod Tests
pub mod Handlers
pub mod Beginnings
pub mod Followings
