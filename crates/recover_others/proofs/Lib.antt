mod AllowingLaws
pub mod TurnLaws
pub mod GuardLaws
pub mod LimitLaws
