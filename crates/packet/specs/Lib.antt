pub mod Again
pub mod AsSent
pub mod Bounds
pub mod ByTable
pub mod Changes
pub mod Counts
pub mod Crc
pub mod Fixed
pub mod Kinds
pub mod Laws
pub mod Layout
pub mod Mst
pub mod Opened
pub mod Reading
pub mod Reserved
pub mod Ruling
mod Samples
pub mod Sent
pub mod Shares
pub mod Symbols
pub mod Theorems
pub mod Vc12
pub mod Words
pub mod Writing
mod Wrong
