-- Laws on the definitions, for the proofs above them.
pub mod Carrying
pub mod Due
pub mod Lengths
pub mod Lent
pub mod Placed
pub mod Starts
pub mod Texts
