-- What pins the sending side: table, sessions, spoken boards, cards and orders, plans of paths.
pub mod Cards
pub mod Paths
pub mod Senders
pub mod Sessions
pub mod Spoken
