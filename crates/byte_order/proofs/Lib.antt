mod HalfLaws
mod RunLaws
mod AcceptLaws
mod BytesLaws
mod SameLaws
pub mod ReadLaws
