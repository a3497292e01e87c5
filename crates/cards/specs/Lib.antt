pub mod Alone
pub mod Answers
pub mod Calls
pub mod Commands
pub mod Laws
pub mod Opened
pub mod Owners
pub mod Parts
pub mod Readings
pub mod Shown
pub mod Theorems
pub mod Views
mod Examples
mod Wrong
