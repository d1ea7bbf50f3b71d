pub mod Digits
pub mod Numbers
pub mod Splits
pub mod Lines
pub mod Labels
pub mod Failures
pub mod Sink
pub mod Fault
