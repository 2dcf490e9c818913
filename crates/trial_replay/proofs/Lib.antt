pub mod OneReplay
mod RunAgain
