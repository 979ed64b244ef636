-- which machines keep the rules of machine words
pub mod Fits
-- a script's machine: lowered, cleaned, combined
pub mod Lowered
pub mod Ranks
pub mod Targets
pub mod Shape
pub mod FinishedCode
pub mod Texts
pub mod Held
pub mod TreeFits
-- no pass refuses it
pub mod Accepts
pub mod Ahead
pub mod Passes
-- its words read back
pub mod Back
