-- Laws on the definitions, for the theorems.
pub mod Alike
pub mod EachCall
pub mod GroupSender
pub mod Members
pub mod Seeing
pub mod Ways
