-- The end of the field says whether it is there, and its bits are its value.
use Rattle.std.proofs.Common.{arith}
use mathlib.Core.Path.{sym}
use Rattle.bits.proofs.Bits.{field-in, field-out, reached, not-reached}
use Rattle.bits.proofs.read_field.Goals as goal

pub returns-in_default : goal.returns-in_default
returns-in_default c = sym (field-out _ _ _ (not-reached _ _ _ c.in_default.ensures))

pub peek-requires : goal.peek-requires
peek-requires c = let k = reached c.in-Some.ensures in omega arith

pub returns : goal.returns
returns c = let k = reached c.in-Some.ensures in rw (field-in _ _ _ k.inside, k.after, c.peek.ensures)
