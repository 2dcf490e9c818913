pub mod Fed
pub mod Words
