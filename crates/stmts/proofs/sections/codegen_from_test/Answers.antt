-- The condition, the jump behind it, and their section.
use Rattle.std.proofs.Common.{arith, refl, ap}
use Rattle.exprs.proofs.Trees.{expr-most}
use Rattle.stmts.proofs.Makes.{makes-jump, jump-most, jump-length}
use Rattle.stmts.proofs.sections.codegen_from_test.Goals as goal

pub condition-n-requires : goal.condition-n-requires
condition-n-requires c = record { ready = c.requires.0.ready; room = omega arith }

pub add_jump-d-requires : goal.add_jump-d-requires
add_jump-d-requires c =
    let p = c.requires.0.ready in
    let s = (c.condition-n.ensures _ _ _ p.few p.held).spent in
    let z = expr-most p.tree in
    omega arith

pub put_section-requires : goal.put_section-requires
put_section-requires c =
    let p = c.requires.0.ready in
    let s = (c.condition-n.ensures _ _ _ p.few p.held).spent in
    let z = expr-most p.tree in
    let a = ap (λ k. k.at) c.add_jump-d.ensures.next in
    let q = jump-most c.args.empty c.args.target.0 c.condition-n.result.reg.0 in
    (c.requires.1, omega arith, omega arith)

pub returns : goal.returns
returns c = λ m e j h x.
    let r = c.condition-n.ensures m e j h x in
    let s = r.spent in
    let z = jump-length c.args.empty c.args.target.0 c.condition-n.result.reg.0 in
    (makes-jump _ _ _ _ r.does c.add_jump-d.ensures.code c.add_jump-d.ensures.next c.put_section.ensures refl, rw c.add_jump-d.ensures.next (omega arith))
