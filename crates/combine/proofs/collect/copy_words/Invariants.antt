-- The first i words are copied.
use Rattle.std.proofs.Common.{◌≡◌, take}
use Rattle.combine.proofs.collect.copy_words.Given as goal

abbrev pub invariant-loop-i : goal.invariant-loop-i
invariant-loop-i l = take l.i l.copy ≡ take l.i l.words
