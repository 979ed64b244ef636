-- The expression and then its number.
use Rattle.std.proofs.Common.{arith}
use Rattle.codegen.proofs.Laws.{then, same}
use Rattle.exprs.proofs.Trees.{expr-most}
use Rattle.stmts.proofs.Forms.{as-line}
use Rattle.stmts.proofs.own.line_number.Goals as goal

pub numberify-requires : goal.numberify-requires
numberify-requires c = let p = c.requires.ready in let s = (c.codegen_from_expr-e.ensures _ _ _ p.few p.held).spent in let z = expr-most p.tree in omega arith

pub returns : goal.returns
returns c = λ m e j h x.
    let s = (c.codegen_from_expr-e.ensures m e j h x).spent in
    record { does = same (as-line _) (then _ (c.codegen_from_expr-e.ensures m e j h x).does c.numberify.ensures.does.does); spent = omega arith }
