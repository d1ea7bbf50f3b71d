pub mod Adapted
pub mod Words
pub mod Settled
pub mod inner
