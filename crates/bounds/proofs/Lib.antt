-- what operators, expressions and statements make and cost
pub mod Operators
pub mod Own
-- replacement adds no register; the counts keep within the estimates, and below 65,535
pub mod Stay
pub mod Estimate
pub mod Bounds
