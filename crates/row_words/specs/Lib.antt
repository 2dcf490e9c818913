pub mod Bytes
pub mod Fits
pub mod Reading
pub mod AccessBytes
pub mod AccessReading
