pub mod Aside
pub mod Named
pub mod Judged
pub mod Told
pub mod RecoveredBut
pub mod inner
