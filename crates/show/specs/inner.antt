pub mod Asking
pub mod Leading
pub mod Covering
