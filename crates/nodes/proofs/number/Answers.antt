-- A number's bits are there, and its node says where; or they are not, and it refuses.
use Rattle.std.proofs.Common.{arith, refl}
use Rattle.rules.specs.Tree.{node, emptyTally, ofExpr}
use Rattle.nodes.specs.Holds.{at-number}
use Rattle.bits.proofs.Gives.{passed, then, stop, done, pass-bits, ends-bits}
use Rattle.nodes.proofs.Table.{agree-refl}
use Rattle.nodes.proofs.Built.{number-from, sealed, refuses}
use Rattle.nodes.proofs.number.Goals as goal

pub returns-in_err-d : goal.returns-in_err-d
returns-in_err-d c = let k = c.in_err-d.ensures in refuses (passed c.from_residual.ensures.1) (number-from (stop _ (ends-bits k.here)))

pub returns : goal.returns
unfolding ofExpr node emptyTally
returns c =
    let x = c.in_ok-d.ensures in
    sealed _ _ _ c.close.ensures (omega arith) (number-from (then _ (pass-bits x.here) done)) agree-refl
    (λ w a. at-number _ _ (omega arith) w x.here.inside refl) (omega arith) x.here.fine
