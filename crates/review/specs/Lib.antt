pub mod Groups
pub mod Asked
pub mod Judged
pub mod Told
pub mod Systemd
pub mod SystemdTold
pub mod Reviewed
pub mod inner
