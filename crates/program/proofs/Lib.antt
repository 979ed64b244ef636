pub mod Names
pub mod Runs
pub mod Script
pub mod Whole
