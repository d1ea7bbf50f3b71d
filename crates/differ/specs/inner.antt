pub mod Branch
pub mod Open
pub mod Extended
pub mod Walk
pub mod Sides
