-- The line's number, and the section that it ends.
use Rattle.std.proofs.Common.{arith, refl}
use Rattle.exprs.proofs.Trees.{expr-most}
use Rattle.stmts.proofs.Makes.{makes-plain}
use Rattle.stmts.proofs.sections.codegen_from_goto.Goals as goal

pub put_section-requires : goal.put_section-requires
put_section-requires c =
    let p = c.requires.0.ready in
    let s = (c.line_number-n.ensures _ _ _ p.few p.held).spent in
    let z = expr-most p.tree in
    (c.requires.1, omega arith, omega arith)

pub returns : goal.returns
returns c = λ m e j h x. let r = c.line_number-n.ensures m e j h x in (makes-plain _ _ _ r.does c.put_section.ensures refl, r.spent)
