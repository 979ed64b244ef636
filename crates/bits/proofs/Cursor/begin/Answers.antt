-- Too deep, one node too many, bits that are not there, or a node that begins.
use Rattle.std.proofs.Common.{arith}
use Rattle.bits.proofs.Gives.{passed, begin-deep, begin-many, begun, begun-out, flag-small}
use Rattle.bits.proofs.Cursor.begin.Goals as goal

pub returns-then-depth-eq0 : goal.returns-then-depth-eq0
returns-then-depth-eq0 c = record { here = begin-deep _ _ c.if-depth-eq0.true }

pub returns-then-self-ge-MOST_NODES : goal.returns-then-self-ge-MOST_NODES
returns-then-self-ge-MOST_NODES c = record { here = begin-many _ _ c.if-depth-eq0.false c.if-self-ge-MOST_NODES.true }

pub returns-in_err-kind : goal.returns-in_err-kind
returns-in_err-kind c =
    let k = c.in_err-kind.ensures in
    rw (passed c.from_residual.ensures.1) (record { here = begun-out _ _ c.if-depth-eq0.false c.if-self-ge-MOST_NODES.false k.here })

pub returns : goal.returns
returns c =
    let k = c.in_ok-kind.ensures in
    rw c.from-more.ensures (record { here = begun c.if-depth-eq0.false c.if-self-ge-MOST_NODES.false (omega arith) (flag-small c.args.is_statement) c.requires.0 k.here })
