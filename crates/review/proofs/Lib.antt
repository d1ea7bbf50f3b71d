pub mod OpposedLaws
pub mod JudgedLaws
pub mod ReviewedLaws
