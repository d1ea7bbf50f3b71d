pub mod Lists
pub mod UnreadLaws
pub mod UnlikeLaws
pub mod SectionLaws
pub mod TakenLaws
