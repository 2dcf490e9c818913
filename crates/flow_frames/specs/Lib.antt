pub mod Codes
pub mod Machine
pub mod Seen
pub mod Held
pub mod Popping
pub mod Telling
