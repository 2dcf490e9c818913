pub mod PartsExact
pub mod PageLaws
pub mod RowsExact
pub mod WorkedRows
