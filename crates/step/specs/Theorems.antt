-- Theorems on the step rule, and on what a packet rules.
pub mod Reserved
pub mod Words
pub mod Heard
pub mod ByTable
pub mod Carried
pub mod FixedPackets
pub mod Kept
pub mod Lost
pub mod Packets
pub mod Run
pub mod Steady
