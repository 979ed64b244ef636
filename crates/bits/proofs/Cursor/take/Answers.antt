-- A field that is there is a number, and one that is not is refused.
use Rattle.bits.proofs.Gives.{taken, bits-out}
use Rattle.bits.proofs.Cursor.take.Goals as goal

pub returns-in_default : goal.returns-in_default
returns-in_default c = record { here = bits-out _ _ _ c.in_default.ensures }

pub returns : goal.returns
returns c = record { here = taken _ _ _ _ _ c.requires.0 c.in-Some.ensures }
