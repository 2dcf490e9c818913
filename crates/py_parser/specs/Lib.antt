pub mod Faults
pub mod Grouped
pub mod Limits
pub mod ParsedBlocks
pub mod RowForms
pub mod Rows
pub mod Script
pub mod Reading
