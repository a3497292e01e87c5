-- Why the theorems hold. Nothing here has to be believed: Theorems states what comes of it.
pub mod Fetched
pub mod Desks
pub mod Started
