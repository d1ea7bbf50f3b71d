pub mod Mnemonics
pub mod Reading
pub mod Written
