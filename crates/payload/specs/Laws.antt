-- Laws on the definitions, for callers and for the proofs of the code.
pub mod Fits
pub mod Ranks
pub mod Shifts
