pub mod Fitting
pub mod Flags
pub mod Listing
pub mod Ready
pub mod Saying
pub mod InRuns
