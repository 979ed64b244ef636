-- a join makes no ring
pub mod Rings
-- any machine: what joins keep; joined in any order; that joining comes to an end
pub mod Orders
-- all results
pub mod Theorems
