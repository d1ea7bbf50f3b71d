pub mod Table
pub mod Lines
pub mod Manual
pub mod Prose
pub mod inner
