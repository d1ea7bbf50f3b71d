pub mod AcceptLemmas
pub mod MaskLemmas
pub mod PathLemmas
pub mod RefusalLaws
pub mod RunLaws
