pub mod Integers
pub mod Letters
pub mod Ranges
pub mod KeyParts
