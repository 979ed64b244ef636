-- The bits that are left are fewer than a byte, and zero. They are there.
use Rattle.std.proofs.Common.{arith}
use Rattle.tree.proofs.Laws.{fill-long, fill-bits, fill-ok, fill-there}
use Rattle.tree.proofs.fill.Goals as goal

pub returns-then-left-ge-BYTE_BITS : goal.returns-then-left-ge-BYTE_BITS
returns-then-left-ge-BYTE_BITS c = record { here = fill-long _ _ (omega arith) }

pub returns-in_default : goal.returns-in_default
returns-in_default c = let k = c.in_default.ensures in absurd (fill-there (omega arith) c.requires k.here)

pub returns-then-v-ne0 : goal.returns-then-v-ne0
returns-then-v-ne0 c = let k = c.in-Ok.ensures in record { here = fill-bits (omega arith) (omega arith) k.here (λ z. omega arith) }

pub returns : goal.returns
returns c = let k = c.in-Ok.ensures in record { here = fill-ok (omega arith) (omega arith) k.here (omega arith) }
