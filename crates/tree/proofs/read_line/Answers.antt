-- A count that is not there is refused, and an empty list is read.
use Rattle.std.proofs.Common.{arith}
use Rattle.nodes.specs.Builds.{listR}
use Rattle.nodes.proofs.Lists.{mid-start, block-built, list-from}
use Rattle.bits.proofs.Gives.{passed, then, stop}
use Rattle.tree.proofs.read_line.Goals as goal

pub returns-in_err-count : goal.returns-in_err-count
unfolding listR
returns-in_err-count c = let k = c.in_err-count.ensures in rw (passed c.from_residual.ensures.1) (record { here = stop _ k.here })

pub returns-then-count-eq0 : goal.returns-then-count-eq0
returns-then-count-eq0 c =
    let b = c.in_ok-count.ensures in
    let k = b.here in
    record { here = list-from _ k (block-built k.small (mid-start _ _ _ _ _ _ k.fine) (omega arith)) }

pub returns-in_err-e : goal.returns-in_err-e
unfolding listR
returns-in_err-e c =
    let b = c.in_ok-count.ensures in
    let k = c.in_err-e.ensures in
    rw (passed c.from_residual-in_err-e.ensures.1) (record { here = then _ b.here.reads k.here })

pub returns : goal.returns
returns c =
    let b = c.in_ok-count.ensures in
    let k = c.in_ok-e.ensures in
    record { here = list-from _ b.here k.here }
