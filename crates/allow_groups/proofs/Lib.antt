pub mod AllowLaws
