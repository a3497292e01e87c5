-- Laws on the definitions, for the proofs above them.
pub mod Meaning
