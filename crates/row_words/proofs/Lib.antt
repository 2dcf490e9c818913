pub mod Exact
pub mod Loop
pub mod Numbers
pub mod Steps
pub mod Words
pub mod Accesses
pub mod Chosen
