-- Laws on the definitions, for the proofs above them.
pub mod Consoles
pub mod Feeding
pub mod Holding
pub mod Keeping
pub mod Refusals
pub mod Running
pub mod Telling
