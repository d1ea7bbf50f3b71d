pub mod BitLaws
pub mod AlikeLaws
pub mod BranchLaws
pub mod OpenLaws
mod AskLaws
mod BoundLaws
pub mod LeftLaws
pub mod StepLaws
pub mod SideLaws
pub mod FoundLaws
pub mod WalkLaws
pub mod WaysLaws
pub mod NamedLaws
pub mod GatheredLaws
