pub mod Passes
pub mod Preservation
