-- What private code does, step by step. No promise cites it.
pub mod Outcome
pub mod Reading
pub mod View
pub mod Clashes
pub mod Making
