pub mod Rooms
pub mod Lists
pub mod LayoutLemmas
pub mod ChunkLemmas
mod Worked
