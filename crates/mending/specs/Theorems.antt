-- What 2026-11 asks of mending, proved on the definitions.
pub mod Again
pub mod Follows
pub mod OwnLines
pub mod Unchanged
pub mod Undone
