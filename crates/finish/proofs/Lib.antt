pub mod Lowered
pub mod Calls
