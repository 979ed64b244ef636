pub mod Fields
pub mod Single
pub mod Numbers
pub mod Packing
pub mod Cleaned
pub mod Whole
pub mod Cleans
