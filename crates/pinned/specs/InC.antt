-- What pins the calls for C: bytes in and out, runs by calls alone, lists of calls.
pub mod Calls
pub mod CardLists
pub mod ReplaysInC
pub mod Runs
pub mod Telling
