pub mod LastTokens
pub mod OnePlace
pub mod OneSpelling
pub mod WrongForms
pub mod WholeAnswer
mod Worked
