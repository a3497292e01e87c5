pub mod Consoles
pub mod Gathering
pub mod Kept
pub mod Laws
pub mod Line
pub mod Opened
pub mod Output
pub mod Replies
pub mod Running
pub mod Runs
pub mod Session
pub mod Shown
pub mod Theorems
pub mod Told
mod Wrong
