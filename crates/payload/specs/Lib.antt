pub mod Answers
pub mod Inner
pub mod Joining
pub mod Laws
pub mod Laying
pub mod Order
pub mod Spreading
pub mod Theorems
