pub mod Adding
pub mod Extended
pub mod Receivers
pub mod Summed
pub mod Written
