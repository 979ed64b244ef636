-- A name is read and stands in one node, or refuses.
use Rattle.std.proofs.Common.{arith}
use Rattle.rules.specs.Tree.{node, emptyTally, ofExpr}
use Rattle.rules.specs.Parse.{identOf}
use Rattle.nodes.specs.Holds.{at-ident}
use Rattle.bits.proofs.Gives.{passed, then, stop, done, named}
use Rattle.nodes.proofs.Table.{agree-refl}
use Rattle.nodes.proofs.Built.{sealed, refuses}
use Rattle.nodes.proofs.ident.Goals as goal

pub returns-in_err-x : goal.returns-in_err-x
unfolding identOf
returns-in_err-x c = let k = c.in_err-x.ensures in refuses (passed c.from_residual.ensures.1) (stop _ (named _ k.here))

pub returns : goal.returns
unfolding identOf ofExpr node emptyTally
returns c =
    let x = c.in_ok-x.ensures in
    sealed _ _ _ c.close.ensures (omega arith) (then _ (named _ x.here.reads) done) agree-refl
    (λ w a. at-ident _ (omega arith) w x.here.small) (omega arith) x.here.fine
