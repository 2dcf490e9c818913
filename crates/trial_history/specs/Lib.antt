pub mod Current
pub mod Fault
pub mod History
pub mod OneRestoring
pub mod Puts
pub mod Restoring
pub mod Stages
pub mod Worked
