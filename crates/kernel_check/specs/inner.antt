pub mod Masks
pub mod Registers
