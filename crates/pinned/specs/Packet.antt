-- What pins the control packet: its numbers and fields, and those of VC-12.
pub mod Packets
pub mod Vc12
