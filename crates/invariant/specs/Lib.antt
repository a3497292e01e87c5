pub mod Calls
pub mod Kept
pub mod Claims
pub mod Ruled
pub mod Reports
pub mod Times
pub mod Waits
pub mod Live
pub mod Words
pub mod Heard
pub mod Read
pub mod Proofs
pub mod Theorems
mod Examples
mod Wrong
