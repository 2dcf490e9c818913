pub mod Characters
pub mod Identity
pub mod Numbers
pub mod RangeBounds
