pub mod Stack
pub mod Unflat
pub mod inner
