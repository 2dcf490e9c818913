pub mod EntryWalks
pub mod Moves
pub mod Operands
pub mod PairPlaces
pub mod PairWalks
pub mod PairWrites
pub mod ViewPlans
