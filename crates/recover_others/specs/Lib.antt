pub mod Others
pub mod RecoveredOthers
pub mod Guarded
pub mod Reason
pub mod inner
