pub mod Entries
pub mod HeldBy
pub mod Lacking
pub mod OfKinds
