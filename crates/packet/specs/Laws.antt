-- Laws on the definitions, for the proofs above them.
pub mod Back
pub mod Bounds
pub mod Bytes
pub mod Changes
pub mod Clock
pub mod Counting
pub mod Distances
pub mod Epochs
pub mod Known
pub mod Mst
pub mod Nibbles
pub mod OwnBits
pub mod Reading
pub mod Vc12
pub mod Vc12Clock
pub mod Writing
