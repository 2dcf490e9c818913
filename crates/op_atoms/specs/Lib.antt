pub mod Answers
pub mod Atoms
pub mod Marks
pub mod Telling
