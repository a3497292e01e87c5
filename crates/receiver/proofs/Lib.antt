pub mod Alone
pub mod Arriving
pub mod Fetched
pub mod Lists
pub mod Numbers
pub mod Reading
pub mod Sizes
pub mod Started
