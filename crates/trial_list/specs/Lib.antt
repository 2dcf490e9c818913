pub mod Dates
pub mod Lines
pub mod Lists
pub mod Stages
