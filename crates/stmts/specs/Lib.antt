pub mod Told
pub mod Own
pub mod Makes
pub mod Lists
pub mod Parts
