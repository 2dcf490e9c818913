pub mod ClosedSets
pub mod Reachables
mod Reaching
mod MissingItems
