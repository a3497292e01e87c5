pub mod Answering
pub mod Chains
pub mod Growing
