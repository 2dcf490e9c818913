pub mod Comparisons
pub mod Pairs
pub mod Best
pub mod Places
