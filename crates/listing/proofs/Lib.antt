pub mod RowParts
pub mod TableRows
pub mod SectionRows
pub mod Machines
