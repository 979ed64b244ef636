-- what is claimed of the calls finish and combine
pub mod Calls
