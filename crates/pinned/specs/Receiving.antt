-- What pins the receiving side: rows, sizes, the step rule, beginning and stopping, frames, verdicts, states and replies, reports, and what is shown.
pub mod Arriving
pub mod Counting
pub mod Frames
pub mod Holding
pub mod Passing
pub mod Ports
pub mod Receivers
pub mod Replying
pub mod Reports
pub mod Rows
pub mod Seeing
pub mod Settling
pub mod Sizes
pub mod Vc12Ports
pub mod Vc12Step
pub mod Verdicts
