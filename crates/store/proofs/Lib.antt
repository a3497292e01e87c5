pub mod Packets
pub mod Putting
pub mod Rings
pub mod Rows
