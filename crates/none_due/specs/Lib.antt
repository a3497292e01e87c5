pub mod Fetches
pub mod Desks
pub mod Proofs
pub mod Theorems
