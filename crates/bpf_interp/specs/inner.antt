pub mod Step
pub mod Moment
pub mod Known
