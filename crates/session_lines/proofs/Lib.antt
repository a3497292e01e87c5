pub mod Answering
pub mod Flags
pub mod Gathers
pub mod Keeping
pub mod Replying
pub mod Lengths
