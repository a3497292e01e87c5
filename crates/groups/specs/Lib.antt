pub mod Cards
pub mod Projected
pub mod Assumed
pub mod Given
pub mod Proofs
pub mod Theorems
pub mod Samples
mod Wrong
