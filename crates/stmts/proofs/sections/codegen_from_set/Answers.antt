-- The assignment, and its section.
use Rattle.std.proofs.Common.{arith}
use Rattle.stmts.specs.Told.{assignTold}
use Rattle.exprs.proofs.Trees.{expr-most}
use Rattle.stmts.proofs.Makes.{makes-plain, assign-most}
use Rattle.stmts.proofs.sections.codegen_from_set.Goals as goal

pub put_section-requires : goal.put_section-requires
put_section-requires c =
    let p = c.requires.0.holding.ready in
    let s = (c.codegen_from_assign-d.ensures _ _ _ p.few c.requires.0.known p.held).spent in
    let z = expr-most p.tree in
    let q = assign-most (assignTold c.args.op) in
    (c.requires.1, omega arith, omega arith)

pub returns : goal.returns
returns c = λ m e j h y x.
    let r = c.codegen_from_assign-d.ensures m e j h y x in
    (makes-plain _ _ _ r.does c.put_section.ensures (rw c.successor.ensures), r.spent)
