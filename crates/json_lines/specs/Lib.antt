pub mod Lines
pub mod Shapes
pub mod Kinds
pub mod Objects
pub mod Kept
pub mod inner
