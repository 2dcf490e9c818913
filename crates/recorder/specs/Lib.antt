pub mod Naming
pub mod MomentRows
pub mod Numbers
pub mod Parts
pub mod Telling
pub mod PageCuts
pub mod Walking
pub mod Recorded
