pub mod Filled
pub mod InC
pub mod Opened
pub mod Packet
pub mod Receiving
pub mod Recorded
pub mod Sending
