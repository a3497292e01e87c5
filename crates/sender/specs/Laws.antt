-- Laws on the definitions, for the proofs above them.
pub mod Adding
pub mod Carrying
pub mod Finding
pub mod Kept
pub mod Numbered
pub mod Removing
pub mod Reporting
pub mod Runs
pub mod Sizes
pub mod Speaking
