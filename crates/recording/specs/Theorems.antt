-- What is proved of a recording's lines.
pub mod Later
pub mod Lines
