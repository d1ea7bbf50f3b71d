pub mod Big
pub mod Turned
