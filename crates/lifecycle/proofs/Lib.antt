pub mod Isolation
pub mod Headline
pub mod Entries
pub mod Places
pub mod StartLemmas
pub mod CommandLaws
pub mod SoundLaws
pub mod Runs
pub mod Containers
pub mod GivenLaws
pub mod FilterLaws
pub mod StayLaws
mod Rows
