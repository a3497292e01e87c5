pub mod Cleared
pub mod Passed
pub mod Settled
