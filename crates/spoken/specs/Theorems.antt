-- What is told, applied and listened to.
pub mod Applied
pub mod Exactly
pub mod InOneRun
pub mod Listener
pub mod NoSecondAnswer
pub mod NothingLost
pub mod NoOther
pub mod Runs
pub mod Speakable
