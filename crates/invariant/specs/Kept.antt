-- What holds after any calls, of a run of frames, of a port and of the whole.
pub mod Run
pub mod Port
pub mod Group
