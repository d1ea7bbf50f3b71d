pub mod Forms
pub mod Listing
pub mod Faults
pub mod Fault
pub mod inner
