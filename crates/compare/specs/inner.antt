pub mod Path
pub mod Parts
pub mod Spans
pub mod Sided
