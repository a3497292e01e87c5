pub mod Answers
pub mod Eight
pub mod Joining
pub mod OneNumber
