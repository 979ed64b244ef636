-- An operator's node is begun before its operands and written behind them; each refusal on the way is that of `expr`.
use Rattle.std.proofs.Common.{arith, refl}
use Rattle.rules.specs.Tree.{both, node, ofExpr}
use Rattle.rules.specs.Parse.{binopOf, unopOf, binops, unops}
use Rattle.nodes.specs.Holds.{at-binop, at-unop}
use Rattle.bits.proofs.Gives.{passed, picked, op-ok, op-no, not-deep, then, stop, done}
use Rattle.nodes.proofs.Table.{agree-part, agree-trans, moved}
use Rattle.nodes.proofs.Arms.{expr-stop, arm-binop, arm-unop, arm-leaf}
use Rattle.nodes.proofs.Built.{sealed, refuses, behind, no-leaf, numbered, operand-free}
use Rattle.nodes.proofs.+read_expr.Goals as goal

pub returns-in_err-k : goal.returns-in_err-k
returns-in_err-k t c = let k = c.in_err-k.ensures in refuses (passed c.from_residual.ensures.1) (expr-stop _ _ k.here)

pub overflow_sub-d : goal.overflow_sub-d
overflow_sub-d t c =
    let b = c.in_ok-k.ensures in
    let h = not-deep _ _ b.here.reads in
    omega arith

-- its number is no expression's
pub returns-in_err-kind : goal.returns-in_err-kind
returns-in_err-kind t c =
    let b = c.in_ok-k.ensures in
    let k = c.in_err-kind.ensures in
    let z = k.1.expressions in
    rw (passed c.from_residual-in_err-kind.ensures.1, k.0)
    (record { here = arm-leaf _ _ (λ e. omega arith) (λ e. omega arith) b.here.reads (no-leaf _ _ (λ e. omega arith) (λ e. omega arith) (λ e. omega arith) (λ e. omega arith)) })

-- ---- two operands

pub returns-in_err-op-in-Binop : goal.returns-in_err-op-in-Binop
unfolding binopOf binops
returns-in_err-op-in-Binop t c =
    let b = c.in_ok-k.ensures in
    let e = numbered c.in_ok-kind.ensures c.in-Binop.is in
    let k = c.in_err-op-in-Binop.ensures in
    refuses (passed c.from_residual-in_err-op-in-Binop.ensures.1) (arm-binop _ _ e b.here.reads (stop _ (op-no binops 4 14 refl k.here)))

pub read_expr-requires : goal.read_expr-requires
read_expr-requires t c =
    let b = c.in_ok-k.ensures in
    let o = c.in_ok-op-in-Binop.ensures in
    let h = not-deep _ _ b.here.reads in
    (omega arith, record { fine = o.here.fine; room = c.requires.room; names = c.requires.names })

pub returns-in_err-c3-in-Binop : goal.returns-in_err-c3-in-Binop
unfolding binopOf binops
returns-in_err-c3-in-Binop t c =
    let b = c.in_ok-k.ensures in
    let e = numbered c.in_ok-kind.ensures c.in-Binop.is in
    let f = c.in_ok-op-in-Binop.ensures in
    let o = f.here in
    let k = c.in_err-c3-in-Binop.ensures in
    refuses (passed c.from_residual-in_err-c3-in-Binop.ensures.1)
    (arm-binop _ _ e b.here.reads (then _ (op-ok binops 4 14 o.reads (picked binops _ o.small).is) (stop _ k.here)))

pub read_expr-requires-in-Binop : goal.read_expr-requires-in-Binop
read_expr-requires-in-Binop t c =
    let b = c.in_ok-k.ensures in
    let l = c.in_ok-c3-in-Binop.ensures in
    let h = not-deep _ _ b.here.reads in
    (omega arith, record { fine = l.here.fine; room = omega arith; names = c.requires.names })

pub returns-in_err-c4-in-Binop : goal.returns-in_err-c4-in-Binop
unfolding binopOf binops
returns-in_err-c4-in-Binop t c =
    let b = c.in_ok-k.ensures in
    let e = numbered c.in_ok-kind.ensures c.in-Binop.is in
    let f = c.in_ok-op-in-Binop.ensures in
    let o = f.here in
    let l = c.in_ok-c3-in-Binop.ensures in
    let k = c.in_err-c4-in-Binop.ensures in
    refuses (passed c.from_residual-in_err-c4-in-Binop.ensures.1)
    (arm-binop _ _ e b.here.reads (then _ (op-ok binops 4 14 o.reads (picked binops _ o.small).is) (then _ l.here.reads (stop _ k.here))))

pub returns-in_ok-c4-in-Binop : goal.returns-in_ok-c4-in-Binop
unfolding binopOf binops ofExpr node both
returns-in_ok-c4-in-Binop t c =
    let b = c.in_ok-k.ensures in
    let e = numbered c.in_ok-kind.ensures c.in-Binop.is in
    let f = c.in_ok-op-in-Binop.ensures in
    let o = f.here in
    let x = c.in_ok-c3-in-Binop.ensures in
    let l = x.here in
    let y = c.in_ok-c4-in-Binop.ensures in
    let r = y.here in
    let q = picked binops _ o.small in
    sealed _ _ _ c.close.ensures (omega arith)
    (arm-binop _ _ e b.here.reads (then _ (op-ok binops 4 14 o.reads q.is) (then _ l.reads (then _ r.reads done))))
    (agree-trans (agree-part l.kept (omega arith) (omega arith)) (agree-part r.kept (omega arith) (omega arith)))
    (λ w a.
    at-binop _ _ q.is w (omega arith) (moved (agree-trans (agree-part r.kept (omega arith) (omega arith)) (agree-part a (omega arith) (omega arith))) l.holds)
    (moved (agree-part a (omega arith) (omega arith)) r.holds))
    (omega arith) r.fine

-- ---- one operand

pub returns-in_err-op-in-Unop : goal.returns-in_err-op-in-Unop
unfolding unopOf unops
returns-in_err-op-in-Unop t c =
    let b = c.in_ok-k.ensures in
    let e = numbered c.in_ok-kind.ensures c.in-Unop.is in
    let k = c.in_err-op-in-Unop.ensures in
    refuses (passed c.from_residual-in_err-op-in-Unop.ensures.1) (arm-unop _ _ e b.here.reads (stop _ (op-no unops 4 11 refl k.here)))

pub read_expr-requires-in-Unop : goal.read_expr-requires-in-Unop
read_expr-requires-in-Unop t c =
    let b = c.in_ok-k.ensures in
    let o = c.in_ok-op-in-Unop.ensures in
    let h = not-deep _ _ b.here.reads in
    (omega arith, record { fine = o.here.fine; room = c.requires.room; names = c.requires.names })

pub returns-in_err-c3-in-Unop : goal.returns-in_err-c3-in-Unop
unfolding unopOf unops
returns-in_err-c3-in-Unop t c =
    let b = c.in_ok-k.ensures in
    let e = numbered c.in_ok-kind.ensures c.in-Unop.is in
    let f = c.in_ok-op-in-Unop.ensures in
    let o = f.here in
    let k = c.in_err-c3-in-Unop.ensures in
    refuses (passed c.from_residual-in_err-c3-in-Unop.ensures.1)
    (arm-unop _ _ e b.here.reads (then _ (op-ok unops 4 11 o.reads (picked unops _ o.small).is) (stop _ k.here)))

pub returns-in_ok-c3-in-Unop : goal.returns-in_ok-c3-in-Unop
unfolding unopOf unops ofExpr node
returns-in_ok-c3-in-Unop t c =
    let b = c.in_ok-k.ensures in
    let e = numbered c.in_ok-kind.ensures c.in-Unop.is in
    let f = c.in_ok-op-in-Unop.ensures in
    let o = f.here in
    let y = c.in_ok-c3-in-Unop.ensures in
    let r = y.here in
    let q = picked unops _ o.small in
    sealed _ _ _ c.close-in-Unop.ensures (omega arith)
    (arm-unop _ _ e b.here.reads (then _ (op-ok unops 4 11 o.reads q.is) (then _ r.reads done)))
    (agree-part r.kept (omega arith) (omega arith))
    (λ w a. at-unop _ _ q.is w (omega arith) (moved (agree-part a (omega arith) (omega arith)) r.holds))
    (omega arith) r.fine

-- ---- none

pub returns-in_default : goal.returns-in_default
returns-in_default t c =
    let b = c.in_ok-k.ensures in
    let m = b.here.moved in
    let e = c.in_ok-kind.ensures in
    let f = operand-free _ c.in_default.not-Binop c.in_default.not-Unop in
    behind (λ res g. arm-leaf _ _ (λ z. omega arith) (λ z. omega arith) b.here.reads (rw e at g)) refl (λ x d n. omega arith) c.leaf.ensures
