pub mod BytesLemmas
pub mod CodeLaws
pub mod PlainLaws
pub mod RunLaws
