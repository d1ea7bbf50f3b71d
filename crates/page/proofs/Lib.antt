pub mod Added
pub mod Grouped
pub mod Markup
pub mod Rows
