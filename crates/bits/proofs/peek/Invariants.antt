-- The first k bytes of bits are read.
use Rattle.std.proofs.Common.{◌≡◌, ◌*◌}
use Rattle.rules.specs.Constants.{byteBits}
use Rattle.rules.specs.Bits.{spelled}
use Rattle.bits.proofs.peek.Given as goal

abbrev pub invariant-loop-k : goal.invariant-loop-k
invariant-loop-k l = l.v ≡ spelled l.s (l.k * byteBits) l.at
