-- A flag and a name are read and stand in one node, or the first of them that is refused refuses.
use Rattle.std.proofs.Common.{arith}
use Rattle.rules.specs.Tree.{node, emptyTally}
use Rattle.nodes.specs.Builds.{flagR}
use Rattle.bits.proofs.Gives.{passed, then, stop, done, named}
use Rattle.nodes.proofs.Table.{agree-refl}
use Rattle.nodes.proofs.Built.{sealed, refuses}
use Rattle.nodes.proofs.flagged.Goals as goal

pub returns-in_err-b : goal.returns-in_err-b
unfolding flagR
returns-in_err-b c = let k = c.in_err-b.ensures in refuses (passed c.from_residual.ensures.1) (stop _ k.here)

pub returns-in_err-x : goal.returns-in_err-x
unfolding flagR
returns-in_err-x c =
    let b = c.in_ok-b.ensures in
    let k = c.in_err-x.ensures in
    refuses (passed c.from_residual-in_err-x.ensures.1) (then _ b.here.reads (stop _ (named _ k.here)))

pub returns : goal.returns
unfolding flagR node emptyTally
returns c =
    let b = c.in_ok-b.ensures in
    let x = c.in_ok-x.ensures in
    sealed _ _ _ c.close.ensures (omega arith) (then _ b.here.reads (then _ (named _ x.here.reads) done)) agree-refl
    (λ w a. record { last = omega arith; is = w; flag = b.here.small; known = x.here.small }) (omega arith) x.here.fine
