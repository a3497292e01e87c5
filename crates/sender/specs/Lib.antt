pub mod Answers
pub mod Board
pub mod Calls
pub mod Commands
pub mod Epochs
pub mod SenderRuns
pub mod Laws
pub mod Numbering
pub mod Opened
pub mod Outcomes
pub mod Ranks
pub mod Reports
pub mod Shown
pub mod Table
pub mod Theorems
mod Wrong
