-- The theorems say something: a link and rounds with all that is let be so, each computed to the start that is promised; and the loop by epochs with rows worked out apart.
pub mod Starts
pub mod Looped
pub mod Loop
pub mod Opened
pub mod Rows
mod OneSlot
mod Delayed
pub mod Trial
mod Failed
mod TwoSlots
