pub mod Names
pub mod Program
pub mod Script
