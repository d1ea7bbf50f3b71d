pub mod ArchLaws
pub mod NumberLaws
pub mod ForeignLaws
