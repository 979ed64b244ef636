-- What is left of the characters decides.
use Rattle.std.proofs.Common.{◌≡◌, ◌+◌, ◌-◌, ◌*◌}
use Rattle.rules.specs.Constants.{charBits}
use Rattle.rules.specs.Parse.{sameChars, sameName}
use Rattle.bits.specs.Reads.{charsAt}
use Rattle.names.specs.Names.{nameAt}
use Rattle.names.proofs.same.Given as goal

abbrev pub invariant-loop-k : goal.invariant-loop-k
invariant-loop-k l = sameChars (charsAt l.s (l.length - l.k) (l.a + charBits * l.k)) (charsAt l.s (l.length - l.k) (l.b + charBits * l.k)) ≡ sameName (nameAt l.s l.p) (nameAt l.s l.q)
