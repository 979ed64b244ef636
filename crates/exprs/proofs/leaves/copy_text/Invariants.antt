-- What is left to copy, put behind what was copied, makes the whole.
use Rattle.std.proofs.Common.{◌≡◌, ◌+◌, ◌-◌, ◌*◌, length}
use Rattle.std.proofs.lemmas.List.Edits.{sets}
use Rattle.bits.specs.Reads.{charsAt}
use Rattle.exprs.proofs.leaves.copy_text.Given as goal

abbrev pub invariant-loop-k : goal.invariant-loop-k
invariant-loop-k l = record {
  left : sets l.text l.k (charsAt l.s (length l.initial.text - l.k) (l.p + 7 * l.k)) ≡ charsAt l.s (length l.initial.text) l.p;
}
