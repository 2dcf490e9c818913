pub mod Delivered
pub mod Ending
pub mod Ends
pub mod PutsAll
pub mod Shown
pub mod Stages
pub mod Stands
