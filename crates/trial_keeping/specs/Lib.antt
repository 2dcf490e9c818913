pub mod RecordBytes
pub mod RecordFaults
pub mod RecordFits
pub mod RecordReading
pub mod Heads
pub mod Fault
pub mod Keeping
pub mod Trial
