pub mod Words
pub mod Record
pub mod Verdict
pub mod Ends
pub mod Fate
pub mod Bits
pub mod Text
