-- Why the packet being gathered is the one that came.
pub mod Rows
pub mod Runs
pub mod Losing
pub mod Calls
pub mod Lost
