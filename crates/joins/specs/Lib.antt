-- numbers that fall, references, pairs
pub mod Numbers
pub mod References
pub mod Pairs
-- one join: what stands where afterwards, and what is kept; how much code is left
pub mod Joins
pub mod Code
-- joins until no pair is left
pub mod Along
-- successors ahead
pub mod Ahead
