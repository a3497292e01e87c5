-- Laws of tags about the window and of what follows from a frame.
pub mod Flags
pub mod Window
pub mod Settling
pub mod Started
