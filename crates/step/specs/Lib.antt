pub mod Run
pub mod RunKept
mod Samples
pub mod Starts
pub mod OwnCount
pub mod ByTable
pub mod Carried
pub mod Arrival
pub mod Steady
pub mod Sent
pub mod SentRuns
pub mod Losing
pub mod Words
pub mod Opened
pub mod Laws
pub mod Theorems
