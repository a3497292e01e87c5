pub mod Mends
pub mod Opened
pub mod Replays
pub mod Theorems
