pub mod Answers
pub mod AnswersView
pub mod Asking
pub mod Capture
pub mod Files
pub mod FilesView
