-- Laws of the definitions, for the proofs and for callers.
pub mod Choosing
pub mod Claims
pub mod Granting
pub mod Members
