pub mod AnswerOrder
pub mod FileOrder
pub mod Lasts
pub mod PathSets
