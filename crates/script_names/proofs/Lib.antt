pub mod LocalWalks
pub mod Defs
