pub mod Answer
pub mod Calls
pub mod Rules
pub mod Machine
pub mod Room
pub mod Parts
pub mod Saying
pub mod Refusal
