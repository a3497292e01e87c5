-- Demand 3 per group says something: a card that two groups share, their calls interleaved. Each group's link has all that is let be so, and each run is computed to its reports.
pub mod Calls
pub mod Histories
pub mod Links
mod Words
mod Met
mod Gives
mod Reports
