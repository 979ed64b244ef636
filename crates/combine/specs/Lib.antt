-- words that hold sections
pub mod Held
-- references and tests in words
pub mod Counting
pub mod Tests
-- new numbers, chains and stores
pub mod Numbers
pub mod Stores
pub mod Chains
pub mod Writes
-- what the pass leaves
pub mod Combined
