pub mod Renaming
pub mod Related
pub mod Under
pub mod Simulation
pub mod Owned
pub mod Cut
pub mod BoundNames
