pub mod Reading
pub mod Heads
