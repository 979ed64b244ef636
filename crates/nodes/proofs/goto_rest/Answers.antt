-- A Goto's expression stands behind its node, or refuses.
use Rattle.std.proofs.Common.{arith}
use Rattle.rules.specs.Tree.{both, node, ofBlock, statement}
use Rattle.rules.specs.Parse.{gotoOf}
use Rattle.nodes.specs.Width.{width}
use Rattle.bits.proofs.Gives.{passed, then, stop, done}
use Rattle.nodes.proofs.Table.{agree-part, moved}
use Rattle.nodes.proofs.Puts.{put-goto}
use Rattle.nodes.proofs.Built.{sealed, refuses}
use Rattle.nodes.proofs.goto_rest.Goals as goal

pub returns-in_err-d : goal.returns-in_err-d
unfolding gotoOf
returns-in_err-d c = let k = c.in_err-d.ensures in refuses (passed c.from_residual.ensures.1) (stop _ k.here)

pub returns : goal.returns
unfolding gotoOf ofBlock statement node both width
returns c =
    let k = c.in_ok-d.ensures in
    let r = k.here in
    let n = r.counts in
    sealed _ _ _ c.close.ensures (omega arith) (then _ r.reads done) (agree-part r.kept (omega arith) (omega arith))
    (λ w a. put-goto w c.requires.node.begun (moved (agree-part a (omega arith) (omega arith)) r.holds)) (record { adds = λ xs e q. omega arith }) r.fine
