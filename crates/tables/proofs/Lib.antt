pub mod Single
pub mod Walks
pub mod Sound
pub mod Texts
pub mod InPlace
pub mod Read
pub mod Change
