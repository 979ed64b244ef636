pub mod Words
pub mod Depth
pub mod Assembled
pub mod Before
pub mod Done
pub mod Steps
