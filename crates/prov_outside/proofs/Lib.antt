pub mod LastOf
pub mod Lines
pub mod Worked
