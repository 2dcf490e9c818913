pub mod Spreads
pub mod NextSpreads
