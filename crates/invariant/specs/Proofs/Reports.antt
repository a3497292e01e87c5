-- What the theorems on reports need.
pub mod Seen
pub mod Bytes
pub mod Held
pub mod Fixed
pub mod Groups
pub mod Order
pub mod Ack
pub mod Cause
pub mod HandedAgain
