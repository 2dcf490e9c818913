pub mod Counting
pub mod Reached
pub mod FrontRows
pub mod Ran
pub mod Answering
pub mod OneReplay
pub mod Texts
