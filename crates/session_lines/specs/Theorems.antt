-- What 01 asks of a session, proved on the definitions.
pub mod Cuts
pub mod NothingLost
pub mod Running
pub mod Told
