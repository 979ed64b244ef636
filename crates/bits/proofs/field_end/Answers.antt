-- A field that ends past the file is refused, and any other is there.
use Rattle.std.proofs.Common.{arith}
use mathlib.Core.Path.{sym}
use Rattle.bits.proofs.Bits.{end-in, end-out}
use Rattle.bits.proofs.field_end.Goals as goal

pub returns-then-at-bits : goal.returns-then-at-bits
returns-then-at-bits c = sym (end-out _ _ _ (omega arith))

pub returns : goal.returns
returns c = sym (end-in _ _ _ (omega arith))
