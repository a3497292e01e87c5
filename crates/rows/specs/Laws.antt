-- Laws on the rows, for the proofs above them.
pub mod Rows
pub mod Records
pub mod Port
pub mod Bytes
