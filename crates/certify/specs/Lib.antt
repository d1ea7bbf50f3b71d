pub mod Chains
pub mod Fault
pub mod Telling
pub mod Error
pub mod Certificates
pub mod inner
