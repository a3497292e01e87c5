pub mod Cause
pub mod Full
pub mod Laws
pub mod Lowest
pub mod Marked
pub mod Named
pub mod Numbers
pub mod Opened
pub mod Order
pub mod Seen
pub mod Tally
pub mod Theorems
pub mod Verdict
mod Wrong
