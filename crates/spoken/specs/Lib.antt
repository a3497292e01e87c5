pub mod Answers
pub mod Applying
pub mod Changes
pub mod Fitting
pub mod Said
pub mod Laws
pub mod Listening
pub mod Opened
pub mod Runs
pub mod Shown
pub mod Speaking
pub mod SpeakingRuns
pub mod Taking
pub mod Theorems
mod Examples
mod Wrong
