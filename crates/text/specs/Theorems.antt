-- What is proved of texts.
pub mod Decimal
