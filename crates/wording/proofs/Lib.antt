pub mod Deciding
pub mod Texts
pub mod Results
pub mod Splits
pub mod Ends
