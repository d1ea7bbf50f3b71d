mod ReadLaws
mod ItemLaws
mod WordLaws
mod HeardLaws
pub mod SettledLaws
mod CoveringLaws
mod HeadLaws
