-- What inner functions say of each other. No entry point's promise names these.
pub mod Area
pub mod Block
pub mod Deal
pub mod Front
