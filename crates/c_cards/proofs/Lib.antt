pub mod Ordering
pub mod Parts
pub mod Planning
pub mod Telling
pub mod Tells
pub mod TwoGroups
pub mod WholeBoards
