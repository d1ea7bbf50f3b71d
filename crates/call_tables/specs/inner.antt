pub mod Order
pub mod OrderLaws
pub mod WholeTables
