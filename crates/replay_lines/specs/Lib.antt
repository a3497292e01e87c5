pub mod Coming
pub mod Deeds
pub mod Laws
pub mod Lengths
pub mod Opened
pub mod Output
pub mod Printing
pub mod Replay
pub mod Runs
pub mod Theorems
pub mod Turn
mod Wrong
