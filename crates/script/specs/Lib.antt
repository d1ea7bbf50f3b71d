pub mod Numbers
pub mod Commands
pub mod Grammar
pub mod Lines
pub mod Pairs
pub mod Requests
pub mod Laws
pub mod inner
