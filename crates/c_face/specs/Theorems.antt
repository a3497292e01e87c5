-- What the C calls are, proved on the definitions.
pub mod CratesOwn
pub mod Relay
pub mod Round
pub mod Runs
