-- Mirrors of private code.
pub mod Judged
pub mod Marked
pub mod Claimed
pub mod Asked
pub mod Ways
pub mod Broken
pub mod Among
pub mod Followed
pub mod Passed
pub mod Agreed
pub mod Alike
pub mod Told
