-- What a listener's session is asked for, proved on the definitions.
pub mod Cuts
pub mod NothingLost
pub mod Running
pub mod Told
