-- Counting what the sections that are left say is counting all.
use Rattle.std.proofs.Common.{◌≡◌, drop}
use Rattle.combine.specs.Counting.{countSections}
use Rattle.combine.proofs.references.count_sections.Given as goal

abbrev pub invariant-loop-s : goal.invariant-loop-s
invariant-loop-s l = countSections l.s (drop l.s l.sections) l.counts ≡ countSections 0 l.sections l.fn.counts
