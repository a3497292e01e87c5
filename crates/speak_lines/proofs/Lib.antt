pub mod Answering
pub mod Printing
