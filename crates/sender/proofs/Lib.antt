pub mod Answers
pub mod Firsts
pub mod Sending
