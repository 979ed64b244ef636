-- words and the sections that they hold
pub mod Tells
pub mod Back
pub mod Used
pub mod Standing
-- references and tests in words are those of what the words hold, and the counts tell the heads
pub mod Counted
pub mod Tests
pub mod Ways
pub mod Taken
-- the turns of loops, and what the pass leaves
pub mod Walks
pub mod Picks
pub mod Stores
pub mod Follows
pub mod Writing
pub mod Collected
-- words that keep the rules, and a machine that a caller knows
pub mod Again
pub mod Ready
-- the call
pub mod Whole
