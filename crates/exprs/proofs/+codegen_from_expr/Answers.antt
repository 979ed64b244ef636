-- Each operand stands behind its operation and has room within what was owed; what they do, one after the other, is what `codegenFromExpr` does.
use Rattle.std.proofs.Common.{arith, refl}
use Rattle.rules.specs.Tree.{ofExpr, node, both}
use Rattle.nodes.proofs.Table.{grows}
use Rattle.codegen.proofs.Laws.{then, same}
use Rattle.exprs.specs.Exprs.{exprCost}
use Rattle.exprs.proofs.Forms.{as-binop, as-unop}
use Rattle.exprs.proofs.Trees.{is-kind, binop-at, unop-at}
use Rattle.exprs.proofs.+codegen_from_expr.Goals as goal

pub offset_bounds-nodes-i : goal.offset_bounds-nodes-i
offset_bounds-nodes-i t c = omega (arith, grows c.requires.held)

pub bounds-nodes-i : goal.bounds-nodes-i
bounds-nodes-i t c = omega (arith, grows c.requires.held)

-- ---- two operands

pub overflow_add-h : goal.overflow_add-h
overflow_add-h t c = omega (arith, grows c.requires.held)

pub offset_bounds-nodes-h : goal.offset_bounds-nodes-h
offset_bounds-nodes-h t c =
    let p = c.requires in
    let b = binop-at p.short p.few p.held (is-kind c.is.ensures c.if-is.true) refl refl in
    omega arith

pub bounds-nodes-h : goal.bounds-nodes-h
bounds-nodes-h t c =
    let p = c.requires in
    let b = binop-at p.short p.few p.held (is-kind c.is.ensures c.if-is.true) refl refl in
    omega arith

pub codegen_from_expr-r-requires : goal.codegen_from_expr-r-requires
codegen_from_expr-r-requires t c =
    let p = c.requires in
    let b = binop-at p.short p.few p.held (is-kind c.is.ensures c.if-is.true) refl c.last-right.ensures in
    (omega arith, record { names = p.names; tree = b.r; last = _; held = b.right; inside = omega arith; short = p.short; few = p.few; fits = omega arith })

pub copy_valreg-x-requires : goal.copy_valreg-x-requires
copy_valreg-x-requires t c =
    let p = c.requires in
    let b = binop-at p.short p.few p.held (is-kind c.is.ensures c.if-is.true) refl c.last-right.ensures in
    omega (arith, (c.codegen_from_expr-r.ensures _ _ _ p.few b.right).spent)

pub codegen_from_expr-l-requires : goal.codegen_from_expr-l-requires
codegen_from_expr-l-requires t c =
    let p = c.requires in
    let b = binop-at p.short p.few p.held (is-kind c.is.ensures c.if-is.true) refl c.last-right.ensures in
    (omega arith, record { names = p.names; tree = b.l; last = _; held = b.left; inside = omega arith; short = p.short; few = p.few; fits = omega (arith, (c.codegen_from_expr-r.ensures _ _ _ p.few b.right).spent) })

pub codegen_from_binop-requires : goal.codegen_from_binop-requires
codegen_from_binop-requires t c =
    let p = c.requires in
    let b = binop-at p.short p.few p.held (is-kind c.is.ensures c.if-is.true) refl c.last-right.ensures in
    let r = (c.codegen_from_expr-r.ensures _ _ _ p.few b.right).spent in
    let v = (c.codegen_from_expr-l.ensures _ _ _ p.few b.left).spent in
    omega arith

pub returns-then-is : goal.returns-then-is
unfolding exprCost ofExpr node both
returns-then-is t c =
    λ m e j h x.
    let q = rw c.op.ensures at c.of-op.ensures in
    let b = binop-at c.requires.short h x (is-kind c.is.ensures c.if-is.true) q c.last-right.ensures in
    let r = c.codegen_from_expr-r.ensures m _ _ h b.right in
    let l = c.codegen_from_expr-l.ensures m _ _ h b.left in
    rw b.is (record {
      does = same (as-binop _ _ _) (then _ r.does (then _ c.copy_valreg-x.ensures.does.does (then _ l.does c.codegen_from_binop.ensures.does.does)));
      spent = omega arith;
    })

-- ---- one operand

pub codegen_from_expr-r-requires-then-is-2 : goal.codegen_from_expr-r-requires-then-is-2
codegen_from_expr-r-requires-then-is-2 t c =
    let p = c.requires in
    let b = unop-at p.held (is-kind c.is-2.ensures c.if-is-2.true) refl in
    (omega arith, record { names = p.names; tree = b.r; last = _; held = b.operand; inside = omega arith; short = p.short; few = p.few; fits = omega arith })

pub codegen_from_unop-requires : goal.codegen_from_unop-requires
codegen_from_unop-requires t c =
    let p = c.requires in
    let b = unop-at p.held (is-kind c.is-2.ensures c.if-is-2.true) refl in
    omega (arith, (c.codegen_from_expr-r-then-is-2.ensures _ _ _ p.few b.operand).spent)

pub returns-then-is-2 : goal.returns-then-is-2
unfolding exprCost ofExpr node
returns-then-is-2 t c =
    λ m e j h x.
    let q = rw c.op-then-is-2.ensures at c.of-op-then-is-2.ensures in
    let b = unop-at x (is-kind c.is-2.ensures c.if-is-2.true) q in
    let r = c.codegen_from_expr-r-then-is-2.ensures m _ _ h b.operand in
    rw b.is (record { does = same (as-unop _ _) (then _ r.does c.codegen_from_unop.ensures.does.does); spent = omega arith })
