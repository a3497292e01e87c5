-- What stands in a list of changes, and what laying it on a board does.
pub mod Answers
pub mod Laying
pub mod Rising
pub mod Rows
pub mod Runs
pub mod Spoken
pub mod Waits
