-- What 01 says of member states and the reply, and 02 of waiting, proved on the definitions.
pub mod Ack
pub mod Edges
pub mod Mst
pub mod States
pub mod Undisputed
pub mod Waiting
pub mod Zero
pub mod Alone
pub mod Keeping
