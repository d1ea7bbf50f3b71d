-- Mirrors of private code.
pub mod Turns
