pub mod Nodes
pub mod Spelling
pub mod Reading
pub mod Faults
pub mod Views
pub mod Writing
pub mod Fault
pub mod inner
