pub mod Fault
pub mod Paths
pub mod Accepted
pub mod Lent
pub mod inner
