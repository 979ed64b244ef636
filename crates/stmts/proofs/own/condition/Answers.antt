-- The expression and then its test.
use Rattle.std.proofs.Common.{arith}
use Rattle.codegen.proofs.Laws.{then, same}
use Rattle.exprs.proofs.Trees.{expr-most}
use Rattle.stmts.proofs.Forms.{as-condition}
use Rattle.stmts.proofs.own.condition.Goals as goal

pub make_truthy-requires : goal.make_truthy-requires
make_truthy-requires c = let p = c.requires.ready in let s = (c.codegen_from_expr-e.ensures _ _ _ p.few p.held).spent in let z = expr-most p.tree in omega arith

pub returns : goal.returns
returns c = λ m e j h x.
    let s = (c.codegen_from_expr-e.ensures m e j h x).spent in
    record { does = same (as-condition _) (then _ (c.codegen_from_expr-e.ensures m e j h x).does c.make_truthy.ensures.does.does); spent = omega arith }
