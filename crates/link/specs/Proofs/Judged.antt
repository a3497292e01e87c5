-- What a link's reports say: the road it makes is fair, and each epoch's contents are judged as demand 3 has it.
pub mod Fairness
pub mod Seen
pub mod Sure
pub mod Reports
pub mod Apart
