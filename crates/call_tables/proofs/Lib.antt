pub mod TableLaws
pub mod InverseLaws
pub mod HalvingLaws
pub mod ColumnLaws
pub mod OwnLaws
