pub mod Recovered
pub mod Unsaid
