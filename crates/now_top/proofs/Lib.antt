pub mod Completing
pub mod Delivering
pub mod Finishing
pub mod Histories
pub mod Sources
pub mod Preparing
pub mod Meanings
pub mod OneMeaning
pub mod Answering
pub mod Promising
mod Questioning
pub mod Restorings
pub mod RestoreParts
