-- What follows from the definitions for all ports.
pub mod Arc
pub mod Settled
pub mod ByTable
