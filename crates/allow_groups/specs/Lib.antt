pub mod Calls
pub mod Allowing
pub mod Report
pub mod Allowed
