pub mod Code
pub mod Machine
pub mod Causes
pub mod Bytes
pub mod Fault
pub mod Program
