-- Counting the jumps that are left is counting all.
use Rattle.std.proofs.Common.{◌≡◌, drop}
use Rattle.combine.specs.Counting.{countJumps}
use Rattle.combine.proofs.references.count_jumps.Given as goal

abbrev pub invariant-loop-w : goal.invariant-loop-w
invariant-loop-w l = countJumps (drop l.w-index l.instructions) l.counts ≡ countJumps l.instructions l.fn.counts
