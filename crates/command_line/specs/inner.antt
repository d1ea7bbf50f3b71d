pub mod Grammar
pub mod Misused
