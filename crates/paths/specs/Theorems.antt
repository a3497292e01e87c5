-- What the request asks of the check and of the planner, proved on the definitions.
pub mod Checking
pub mod NothingLost
pub mod Planning
pub mod Returned
