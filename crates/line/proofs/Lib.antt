pub mod Parts
pub mod Sums
