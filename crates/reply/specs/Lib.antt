pub mod Choosing
pub mod Reports
pub mod Lists
pub mod Laws
pub mod Members
pub mod Opened
pub mod Telling
pub mod Theorems
pub mod Waiting
mod Wrong
pub mod Zero
