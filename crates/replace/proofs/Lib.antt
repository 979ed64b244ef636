pub mod Adding
pub mod Steps
pub mod Runs
pub mod Sections
pub mod Replaces
