-- Computed examples in named rows: 01's own in Paper, worked ones in the others, those of a request in the files of its subject.
pub mod Circuits
pub mod FixedGroups
pub mod FixedRuns
pub mod Hosts
pub mod Orders
pub mod OtherNumbers
pub mod OwnCount
pub mod Paper
pub mod Replays
pub mod Waiting
pub mod Worked
