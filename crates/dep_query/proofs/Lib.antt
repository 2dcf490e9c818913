pub mod Gathered
pub mod OneDataflow
pub mod Order
pub mod RowsTold
pub mod Written
pub mod OneFeeding
