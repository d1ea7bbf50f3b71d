pub mod Front
pub mod Lead
