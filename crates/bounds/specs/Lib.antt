-- scripts: jump targets aside, instructions and registers, replacement over sections and over the script
pub mod Lengths
pub mod Jumps
pub mod Good
pub mod ReplaceScript
-- what lowering makes: registers that are there, costs, and nothing that replacement adds a register for
pub mod Room
pub mod Steps
pub mod Own
pub mod Quiet
-- what parsing grants, and the counts of a parsed tree's machine
pub mod Parsed
pub mod Limits
pub mod LimitsTree
pub mod Bounds
