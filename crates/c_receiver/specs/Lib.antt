pub mod Receivers
pub mod Theorems
