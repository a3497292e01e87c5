pub mod Answers
pub mod Checking
pub mod Laws
pub mod Opened
pub mod Order
pub mod Paths
pub mod Planning
pub mod Theorems
mod Wrong
