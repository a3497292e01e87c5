-- Why a packet that rules has its epoch's number where the step rule alone sees to it.
pub mod Port
pub mod Calls
