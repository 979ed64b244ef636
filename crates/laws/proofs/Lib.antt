pub mod Pack
pub mod Words
pub mod SectionWord
