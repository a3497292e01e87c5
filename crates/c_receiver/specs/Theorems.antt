-- What the C calls are, proved on the definitions.
pub mod CratesOwn
