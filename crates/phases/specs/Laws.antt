-- Laws on what concerns all ports, for the proofs above them.
pub mod Lengths
pub mod Ports
pub mod Passed
pub mod Cleared
pub mod Sizes
