pub mod Clashing
pub mod Places
pub mod Seconds
pub mod MakingLaws
