-- The test of the sections that are left is the test of all.
use Rattle.std.proofs.Common.{◌≡◌, length, drop}
use Rattle.combine.specs.Tests.{wordsAhead}
use Rattle.combine.proofs.refusals.all_ahead.Given as goal

abbrev pub invariant-loop-i : goal.invariant-loop-i
invariant-loop-i l = wordsAhead l.sections (length l.sections) l.i (drop l.i l.sections) ≡ wordsAhead l.sections (length l.sections) 0 l.sections
