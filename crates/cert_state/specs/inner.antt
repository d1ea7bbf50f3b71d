pub mod Summary
pub mod Window
pub mod Exclusion
pub mod Gathered
pub mod Sorted
pub mod Compared
pub mod Columns
