pub mod Rows
pub mod Waits
