-- What the C calls are, proved on the definitions.
pub mod CardApart
pub mod CardListener
pub mod CardRuns
pub mod CratesOwn
pub mod Listener
pub mod Ordered
pub mod OrdersOwn
pub mod Told
