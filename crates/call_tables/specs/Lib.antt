pub mod Table
pub mod Rows
pub mod Tables
pub mod inner
