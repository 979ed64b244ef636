-- the definition
pub mod Gather
