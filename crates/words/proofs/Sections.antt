-- A section's word, over plain variables. Assumes nothing.
use Prim.Native.Nat.{ℕ, ◌<◌}
use Rattle.rules.specs.Word.{wordRun}
use Rattle.laws.proofs.SectionWord.{flag-lt, kind-lt}
use Rattle.laws.proofs.Words.{wordRun-small}

-- the fields of one bit
pub start-lt : (w : ℕ) → (wordRun w).lineStart < 2
start-lt w = (wordRun-small w).0

pub wordRun-kind : (w : ℕ) → (wordRun w).kind < 2
wordRun-kind w = (wordRun-small w).1.0

pub ruleset one_bit = (start-lt, wordRun-kind, flag-lt, kind-lt)
