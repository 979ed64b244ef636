-- The rule on one section's word, as `runsFit` of `rules` has it.
use Rattle.std.specs.Prelude.{Bool, ◌&&◌, ℕ, eqb}
use Rattle.rules.specs.Word.{wordRun, runSpare}
use Rattle.rules.specs.Tables.{Counts, successOf, successFits, startFits}

-- does word w keep the rules as section i, whose run begins at instruction k?
unfoldable pub sectionFits : Counts → ℕ → ℕ → ℕ → Bool
sectionFits u i k w = eqb (runSpare w) 0 && eqb (wordRun w).first k && successFits u (successOf (wordRun w)) && startFits u i (wordRun w)
