-- Theorems that join crates: what one promises is what another assumes, byte for byte.
pub mod Answered
pub mod ByRank
pub mod Joining
pub mod MendedReplays
pub mod SameBytes
pub mod SameCardBytes
pub mod SentInC
