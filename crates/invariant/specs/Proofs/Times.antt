-- Why times change nothing but member states, and why nothing but a report changes these.
pub mod Rows
pub mod Settling
pub mod Frames
pub mod Reports
pub mod Shown
pub mod Start
pub mod Calls
pub mod Between
pub mod Waits
