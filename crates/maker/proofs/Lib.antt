pub mod TableLaws
pub mod CompiledLaws
pub mod RightLaws
mod AnswerLaws
mod BundleLaws
mod ExportLaws
mod FindingLaws
pub mod PlainLaws
pub mod EvidenceLaws
