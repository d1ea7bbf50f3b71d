pub mod RunLaws
pub mod TurnLaws
pub mod AboveLaws
pub mod StackLaws
pub mod SizeLaws
