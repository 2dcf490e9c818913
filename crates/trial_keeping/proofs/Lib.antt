pub mod Going
pub mod ItemsExact
pub mod OneWay
pub mod Orders
pub mod RecordsExact
pub mod WorkedRecords
pub mod Joining
mod HeadsRead
