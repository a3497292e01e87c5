-- Laws on the definitions, for the proofs above them.
pub mod Digits
pub mod Lengths
pub mod Lines
pub mod Parted
pub mod Putting
pub mod Slices
