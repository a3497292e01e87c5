pub mod Marks
pub mod Frames
pub mod Opened
pub mod Laws
