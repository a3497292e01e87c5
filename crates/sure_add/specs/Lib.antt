pub mod Within
pub mod AsSent
pub mod Joined
pub mod Rounds
pub mod Own
pub mod AsAsked
pub mod Proofs
pub mod Theorems
pub mod Samples
mod Wrong
