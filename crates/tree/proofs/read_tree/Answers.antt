-- A file that is too long is refused, and any other is what `read_file` gives.
use Rattle.bits.proofs.Gives.{passed}
use Rattle.tree.proofs.Laws.{treed, parse-long, parse-no}
use Rattle.tree.proofs.read_tree.Goals as goal

pub returns-then-s-gt-MOST_BYTES : goal.returns-then-s-gt-MOST_BYTES
returns-then-s-gt-MOST_BYTES c = record { here = parse-long _ c.if-s-gt-MOST_BYTES.true }

pub returns-in_err-head : goal.returns-in_err-head
returns-in_err-head c = let k = c.in_err-head.ensures in rw (passed c.from_residual.ensures.1) (record { here = parse-no _ _ c.if-s-gt-MOST_BYTES.false k.here })

pub returns : goal.returns
returns c = let k = c.in_ok-head.ensures in record { here = treed k.here c.if-s-gt-MOST_BYTES.false }
