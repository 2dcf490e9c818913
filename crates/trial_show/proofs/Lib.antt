pub mod Suites
pub mod Parts
mod Shown
