pub mod RecoveredLaws
pub mod UnsayableLaws
pub mod AlikeLaws
