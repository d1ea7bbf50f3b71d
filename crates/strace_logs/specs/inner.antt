pub mod Seen
pub mod Wished
pub mod Refusals
pub mod Views
pub mod Played
