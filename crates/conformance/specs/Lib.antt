pub mod Examples
pub mod Joins
pub mod Opened
pub mod Refusals
