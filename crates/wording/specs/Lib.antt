pub mod Phrases
pub mod Reason
pub mod Understood
pub mod Told
pub mod Lines
