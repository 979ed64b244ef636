-- codegen.rs's own way makes the same sections
pub mod CodegenProof
-- preservation of any script with a line, of every tree, and of the calls
pub mod FinishWalk
pub mod PreservationProof
pub mod Calls
-- a finished machine is accepted again, and stays as it is
pub mod Again
-- all results
pub mod Theorems
