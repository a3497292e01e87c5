pub mod Answers
pub mod Pieces
pub mod SenderCalls
pub mod Settings
pub mod Showing
pub mod Wholes
