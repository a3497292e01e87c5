-- Why an add is sure to finish. Nothing here has to be believed: Theorems states what comes of it.
pub mod Others
pub mod Reported
pub mod Claiming
pub mod Restoring
pub mod Over
pub mod Owning
pub mod Ranked
pub mod Settled
pub mod Undamaged
pub mod Frames
