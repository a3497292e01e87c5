-- Laws on the definitions, for callers and for the proofs of the code.
pub mod Lengths
pub mod Sizes
pub mod Answers
pub mod Outcomes
pub mod Fresh
pub mod Frames
pub mod Passed
pub mod Rings
pub mod Seen
pub mod Told
pub mod Bytes
pub mod Anew
pub mod Heard
pub mod Carried
pub mod Behind
