pub mod Bits
pub mod Ways
pub mod Verdicts
