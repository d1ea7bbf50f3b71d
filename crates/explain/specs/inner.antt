pub mod Found
pub mod Events
pub mod Times
pub mod Names
pub mod Origins
