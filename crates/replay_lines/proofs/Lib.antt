pub mod Deciding
pub mod Printing
