pub mod Folding
pub mod Laws
pub mod Opened
pub mod Orders
pub mod Shown
pub mod Singles
pub mod Theorems
mod Wrong
