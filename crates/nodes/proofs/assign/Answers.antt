-- An Assign's name and operator stand in its node and its expression behind it, or the first of them that is refused refuses.
use Rattle.std.proofs.Common.{arith, refl}
use Rattle.rules.specs.Tree.{both, node, ofBlock, statement}
use Rattle.rules.specs.Parse.{assignOf, assignops}
use Rattle.nodes.specs.Width.{width}
use Rattle.bits.proofs.Gives.{passed, picked, op-ok, op-no, then, stop, done, named}
use Rattle.nodes.proofs.Table.{agree-part, moved}
use Rattle.nodes.proofs.Puts.{put-assign}
use Rattle.nodes.proofs.Built.{sealed, refuses}
use Rattle.nodes.proofs.assign.Goals as goal

pub returns-in_err-x : goal.returns-in_err-x
unfolding assignOf
returns-in_err-x c = let k = c.in_err-x.ensures in refuses (passed c.from_residual.ensures.1) (stop _ (named _ k.here))

pub returns-in_err-op : goal.returns-in_err-op
unfolding assignOf assignops
returns-in_err-op c =
    let x = c.in_ok-x.ensures in
    let k = c.in_err-op.ensures in
    refuses (passed c.from_residual-in_err-op.ensures.1) (then _ (named _ x.here.reads) (stop _ (op-no assignops 3 7 refl k.here)))

pub returns-in_err-c3 : goal.returns-in_err-c3
unfolding assignOf assignops
returns-in_err-c3 c =
    let x = c.in_ok-x.ensures in
    let l = c.in_ok-op.ensures in
    let o = l.here in
    let k = c.in_err-c3.ensures in
    refuses (passed c.from_residual-in_err-c3.ensures.1)
    (then _ (named _ x.here.reads) (then _ (op-ok assignops 3 7 o.reads (picked assignops _ o.small).is) (stop _ k.here)))

pub returns : goal.returns
unfolding assignOf assignops ofBlock statement node both width
returns c =
    let x = c.in_ok-x.ensures in
    let l = c.in_ok-op.ensures in
    let o = l.here in
    let k = c.in_ok-c3.ensures in
    let r = k.here in
    let q = picked assignops _ o.small in
    let n = r.counts in
    sealed _ _ _ c.close.ensures (omega arith) (then _ (named _ x.here.reads) (then _ (op-ok assignops 3 7 o.reads q.is) (then _ r.reads done)))
    (agree-part r.kept (omega arith) (omega arith))
    (λ w a. put-assign _ _ _ q.is w x.here.small (omega arith) (moved (agree-part a (omega arith) (omega arith)) r.holds))
    (record { adds = λ xs e q. omega arith }) r.fine
