pub mod inner
pub mod Fixed
