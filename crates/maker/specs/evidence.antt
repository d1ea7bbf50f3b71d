pub mod Tables
pub mod Counterexample
pub mod Right
