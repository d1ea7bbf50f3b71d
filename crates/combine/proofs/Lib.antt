pub mod StackLaws
pub mod UncombinedLaws
