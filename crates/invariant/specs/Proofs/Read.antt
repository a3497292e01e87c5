-- What the theorems on what the host reads out need.
pub mod Heard
pub mod InOrder
pub mod Anew
pub mod Behind
pub mod Sizes
