-- Our sender's histories are a lawful sending side. Nothing here knows the transport.
pub mod Carried
pub mod Lawful
pub mod Numbering
pub mod Ours
pub mod Packets
pub mod Payloads
pub mod Ports
pub mod Reaching
pub mod Ruling
pub mod SaysBack
pub mod Senders
pub mod Sure
pub mod Tables
