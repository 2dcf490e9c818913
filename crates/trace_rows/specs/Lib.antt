pub mod PartBytes
pub mod PartReading
pub mod Page
pub mod RowBytes
pub mod RowReading
