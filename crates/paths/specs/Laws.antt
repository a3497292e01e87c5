-- What the definitions say, in the words that the theorems want.
pub mod Answers
pub mod Listing
pub mod Ranks
pub mod Spreads
pub mod Stretches
