pub mod Shown
pub mod Table
pub mod Graph
pub mod Page
pub mod inner
