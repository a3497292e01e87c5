pub mod Laws
pub mod Lines
pub mod Listening
pub mod Opened
pub mod Runs
pub mod Theorems
pub mod Told
mod Wrong
