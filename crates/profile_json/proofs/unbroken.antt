pub mod UnbrokenArgs
pub mod UnbrokenEntry
pub mod Unbroken
