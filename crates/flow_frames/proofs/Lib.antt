pub mod Plain
pub mod Flows
pub mod Holding
pub mod Tellings
pub mod Starting
