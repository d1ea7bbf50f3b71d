pub mod Machines
pub mod Arch
pub mod Numbers
pub mod Width
