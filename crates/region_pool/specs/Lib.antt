pub mod Places
pub mod Layout
pub mod Pool
pub mod Lends
