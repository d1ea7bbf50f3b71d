pub mod Cuts
pub mod Responding
pub mod Carried
pub mod Lines
pub mod Progress
