-- What pins recordings: texts, lines, replays, files and mending.
pub mod Files
pub mod Mending
pub mod Recording
pub mod Replaying
pub mod Texts
