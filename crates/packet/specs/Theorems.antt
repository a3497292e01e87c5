-- What 01 and requests 2026-08, 2026-02, 2026-12 and 2026-01 ask of packets, proved on the definitions.
pub mod ByTable
pub mod Damage
pub mod Distance
pub mod Fixed
pub mod NoSecondAnswer
pub mod ReadBack
pub mod RefusesAll
pub mod Reserved
pub mod RuleAlike
pub mod Sent
pub mod Shares
pub mod Symbols
pub mod Tags
pub mod Vc12
pub mod WrittenAgain
