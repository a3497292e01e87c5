-- Laws on the step rule and on what a frame does, for the proofs above them.
pub mod Arrival
pub mod H4Run
pub mod OwnBits
pub mod Positions
pub mod RunKept
pub mod StartsRun
