-- Laws on the definitions, for the proofs above them.
pub mod Lowest
pub mod Numbers
pub mod Ports
pub mod Sizes
