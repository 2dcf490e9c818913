pub mod Command
pub mod Numbers
pub mod Parsed
pub mod Positionals
