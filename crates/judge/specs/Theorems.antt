-- What 01 asks of a report and of the payload's order, proved on the definitions.
pub mod Blame
pub mod Cause
pub mod Exact
pub mod Fixed
pub mod Full
pub mod Held
pub mod Ranks
pub mod Sure
