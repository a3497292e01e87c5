-- What holds is kept by every call.
pub mod Taken
pub mod Passing
pub mod Clearing
pub mod WithinCall
pub mod Told
pub mod Settling
pub mod Quiet
pub mod Start
pub mod Calls
