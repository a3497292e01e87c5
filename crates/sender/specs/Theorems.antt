-- What 01 and demand 2 ask of the sender's table, proved on the definitions.
pub mod Demand2
pub mod Epochs
pub mod NoSecondAnswer
pub mod Packets
pub mod Reports
pub mod Told
