pub mod Ascii
pub mod Fields
pub mod Theorems
pub mod Laws
pub mod Opened
pub mod Output
pub mod Text
mod Wrong
