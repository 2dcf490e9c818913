pub mod OneValue
mod ReadOff
