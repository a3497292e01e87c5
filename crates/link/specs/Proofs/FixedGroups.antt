-- A fixed group keeps the laws of a sending side, and its reports are sure.
pub mod Packets
pub mod SaysBack
pub mod Sure
pub mod Over
pub mod Reported
