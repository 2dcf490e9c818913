pub mod Kin
pub mod KinTo
pub mod Merges
pub mod MetPairs
pub mod Places
pub mod Rankings
pub mod Refusals
pub mod Rows
