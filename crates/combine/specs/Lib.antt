pub mod Stack
pub mod Uncombined
