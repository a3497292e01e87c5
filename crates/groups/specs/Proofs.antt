-- Why demand 3 holds for each group. Nothing here has to be believed: Theorems states what comes of it.
pub mod Running
pub mod Senders
pub mod Staying
pub mod Each
pub mod Giving
