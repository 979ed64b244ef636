-- docs/FORMAT.md as definitions that compute, in the order in which to read them.

-- the numbers
pub mod Constants
pub mod Refusal
-- a tree file
pub mod Bits
pub mod Tree
pub mod Parse
-- a machine and its words
pub mod Opcode
pub mod Instr
pub mod Word
pub mod Machine
pub mod Tables
-- lowering: registers and each statement's own instructions, then sections
pub mod Script
pub mod CodegenData
pub mod Operators
pub mod Annotate
pub mod Assemble
-- the passes: replacement, cleaning, combining
pub mod Replace
pub mod Clean
pub mod Combine
pub mod Lowered
-- the operations
pub mod Operations
-- walking a machine, reading a tree, and that the first preserves the second
pub mod Walk
pub mod ReadScript
pub mod Reading
pub mod Preservation
-- joining in any order
pub mod JoinOrder
-- what finlist prints
pub mod Listing
-- what was tried, computed
pub mod Examples
pub mod OperationExamples
pub mod WalkExamples
pub mod PreservationExamples
pub mod JoinOrderExamples
