-- The end of the field says whether it is there.
use Rattle.std.proofs.Common.{arith}
use Rattle.bits.proofs.Bits.{reached, not-reached}
use Rattle.bits.proofs.Cursor.pass.Goals as goal

pub returns-in_default : goal.returns-in_default
returns-in_default c = let h = not-reached _ _ _ c.in_default.ensures in record { here = omega arith }

pub returns : goal.returns
returns c = let k = reached c.in-Some.ensures in record { here = omega arith }
