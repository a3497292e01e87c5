-- Demand 3 says something: a link on which all that it lets be so holds, its run computed to the reports, a link with one frame of spread too many, whose run goes wrong, receivers that are shut out,
-- two links that differ in one epoch of the client's bytes, a link with fewer ports than slots, links with MFI2 damaged after the beginning and before it, a fixed group, a VC-12 group, instances at the lower bounds, whole links at the largest sizes, and two ends of one link.
pub mod Members
pub mod Met
pub mod Computing
pub mod Tracing
pub mod Reports
mod TooWide
mod ShutOut
mod Apart
mod FewerPorts
mod Numbers
mod Fixed
mod Vc12
mod Bounds
mod Largest
mod Words
mod TwoEnds
