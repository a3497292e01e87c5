-- What some, every, how many, the last that and the greatest say.
pub mod Chains
pub mod Numbers
pub mod Ranks
pub mod Tests
