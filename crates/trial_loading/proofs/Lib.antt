pub mod AnswerOrder
pub mod FileOrder
pub mod GatheredItems
pub mod Joining
pub mod ReadingBack
pub mod Fronts
pub mod OneAnswer
pub mod Places
pub mod Readings
mod BehindScript
mod FromText
mod OneCheck
mod OneTrial
mod Whole
