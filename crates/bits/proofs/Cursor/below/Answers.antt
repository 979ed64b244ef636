-- Bits that are not there, a number that reaches the limit, or one below it.
use Rattle.bits.proofs.Gives.{passed, below-in, below-out, below-short}
use Rattle.bits.proofs.Cursor.below.Goals as goal

pub returns-in_err-v : goal.returns-in_err-v
returns-in_err-v c = let k = c.in_err-v.ensures in rw (passed c.from_residual.ensures.1) (record { here = below-short _ _ _ k.here })

pub returns-then-v-limit : goal.returns-then-v-limit
returns-then-v-limit c = let k = c.in_ok-v.ensures in record { here = below-out _ _ _ k.here.reads c.if-v-limit.true }

pub returns : goal.returns
returns c = let k = c.in_ok-v.ensures in record { here = record { reads = below-in _ _ _ k.here.reads c.if-v-limit.false; small = c.if-v-limit.false; moved = k.here.moved; fine = k.here.fine } }
