pub mod Theorems
pub mod Later
pub mod Laws
pub mod Line
pub mod Opened
pub mod Opening
pub mod Pairs
pub mod Reader
pub mod Record
mod Wrong
