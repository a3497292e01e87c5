pub mod Alone
pub mod Blaming
pub mod Chains
pub mod Deciding
pub mod First
pub mod Judging
pub mod Placing
