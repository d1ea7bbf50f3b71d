pub mod Options
pub mod Splits
pub mod Numerals
pub mod NumberLaws
pub mod SinkLemmas
