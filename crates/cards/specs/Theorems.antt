-- What request 2026-06 asks of two circuits on one card, proved on the definitions.
pub mod Apart
pub mod Owned
pub mod Released
pub mod Told
