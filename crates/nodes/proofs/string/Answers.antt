-- A string's length and its characters are there, and its node says where; or one of them is not, and it refuses.
use Rattle.std.proofs.Common.{arith, refl}
use Rattle.rules.specs.Tree.{node, emptyTally, ofExpr}
use Rattle.rules.specs.Parse.{stringOf}
use Rattle.nodes.specs.Holds.{at-string}
use Rattle.bits.proofs.Gives.{passed, then, stop, done}
use Rattle.nodes.proofs.Table.{agree-refl}
use Rattle.nodes.proofs.Built.{chars-length, sealed, refuses}
use Rattle.nodes.proofs.string.Goals as goal

pub returns-in_err-l : goal.returns-in_err-l
unfolding stringOf
returns-in_err-l c = let k = c.in_err-l.ensures in refuses (passed c.from_residual.ensures.1) (stop _ k.here)

pub returns-in_err-e : goal.returns-in_err-e
unfolding stringOf
returns-in_err-e c =
    let b = c.in_ok-l.ensures in
    let k = c.in_err-e.ensures in
    refuses (passed c.from_residual-in_err-e.ensures.1) (then _ b.here.reads (stop _ k.here))

pub returns : goal.returns
unfolding stringOf ofExpr node emptyTally
returns c =
    let b = c.in_ok-l.ensures in
    let x = c.in_ok-e.ensures in
    let n = chars-length c.args.s.now c.in_ok-l.l c.in_ok-l.d.pos in
    sealed _ _ _ c.close.ensures (omega arith) (then _ b.here.reads (then _ x.here.reads done)) agree-refl
    (λ w a. at-string _ _ _ (omega arith) w b.here.small (omega arith) refl) (omega arith) (omega arith)
