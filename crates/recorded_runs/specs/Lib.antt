pub mod Typed
pub mod RecordedRun
pub mod KeptRun
