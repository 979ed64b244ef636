pub mod Forms
pub mod Makes
pub mod Lists
pub mod Splits
pub mod Places
pub mod Steps
pub mod Parts
