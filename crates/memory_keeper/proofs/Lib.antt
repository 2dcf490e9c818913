pub mod LastEntries
pub mod HeadLists
pub mod HeldLaws
pub mod Worked
