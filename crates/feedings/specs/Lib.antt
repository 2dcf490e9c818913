pub mod Feeding
pub mod HasNoted
pub mod Marks
pub mod Noted
pub mod Passing
pub mod RowSites
pub mod Sites
pub mod Sweeps
