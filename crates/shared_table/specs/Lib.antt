pub mod Numbers
pub mod Tree
pub mod Store
pub mod inner
