pub mod Word
pub mod Together
pub mod Combined
pub mod OnCall
pub mod Unjudged
pub mod inner
