-- What is proved of the rows.
pub mod EqualRows
