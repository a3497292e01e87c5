-- What request 2026-07 asks of a work order, proved on the definitions.
pub mod Apart
pub mod Cutting
pub mod OneByOne
pub mod Told
