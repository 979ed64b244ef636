-- The expression, the variable's register and the assignment, one after another.
use Rattle.std.proofs.Common.{arith}
use Rattle.codegen.proofs.Laws.{then, same}
use Rattle.exprs.proofs.Trees.{expr-most}
use Rattle.stmts.proofs.Forms.{as-assign}
use Rattle.stmts.proofs.own.codegen_from_assign.Goals as goal

pub assign_by-requires : goal.assign_by-requires
assign_by-requires c =
    let p = c.requires.holding.ready in
    let s = (c.codegen_from_expr-e.ensures _ _ _ p.few p.held).spent in
    let z = expr-most p.tree in
    omega arith

pub returns : goal.returns
returns c = λ m e j h y x.
    let r = c.codegen_from_expr-e.ensures m e j h x in
    let s = r.spent in
    let u = c.assign_by.ensures in
    let w = u.spent in
    record { does = same (as-assign _ _ _) (then _ r.does (then _ (c.get_variable-v.ensures.does m y).does u.does.does)); spent = omega arith }
