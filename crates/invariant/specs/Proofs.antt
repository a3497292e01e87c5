-- Why the theorems hold. Nothing here has to be believed: Theorems states what comes of it.
pub mod Kept
pub mod Laws
pub mod Settles
pub mod Calls
pub mod Arriving
pub mod Sizes
pub mod Claims
pub mod Claimed
pub mod Ruled
pub mod OwnBits
pub mod Numbered
pub mod Reports
pub mod Times
pub mod Live
pub mod Read
