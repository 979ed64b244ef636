pub mod Lengths
pub mod Files
pub mod Calls
