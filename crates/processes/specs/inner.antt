-- Mirrors of private code.
pub mod Loads
pub mod Table
pub mod Numbers
