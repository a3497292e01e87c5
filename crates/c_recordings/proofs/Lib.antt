pub mod LengthsTold
pub mod Replaying
