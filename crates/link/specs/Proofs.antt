-- Why demand 3 holds. Nothing here has to be believed: Theorems states what comes of it.
pub mod Laws
pub mod Contents
pub mod Fair
pub mod Standing
pub mod Transport
pub mod Judged
pub mod Alike
pub mod Over
pub mod Heard
pub mod Histories
pub mod FixedGroups
