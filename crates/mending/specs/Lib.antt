pub mod Beside
mod Examples
pub mod Follow
pub mod Following
pub mod Laws
pub mod Lines
pub mod Mending
pub mod Opened
pub mod Theorems
pub mod Told
pub mod Undone
mod Wrong
