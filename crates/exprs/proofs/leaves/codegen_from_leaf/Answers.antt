-- The word's kind says which leaf it is, and its fields where to read it.
use Rattle.std.proofs.Common.{arith, sym}
use Rattle.rules.specs.Annotate.{codegenFromExpr}
use Rattle.rules.specs.Tree.{ofExpr, node, emptyTally}
use Rattle.codegen.proofs.Laws.{same}
use Rattle.exprs.specs.Exprs.{exprCost}
use Rattle.exprs.proofs.Forms.{as-number, as-string}
use Rattle.nodes.proofs.Built.{chars-length}
use Rattle.exprs.proofs.Trees.{is-kind, no-kind, incdec-at, ident-at, num-at, str-at, else-string, nodes-some, str-counts}
use Rattle.exprs.proofs.leaves.codegen_from_leaf.Goals as goal

pub codegen_incdec-requires : goal.codegen_incdec-requires
codegen_incdec-requires c =
    let p = c.requires in
    let b = incdec-at p.few p.held p.word (is-kind c.is.ensures c.if-is.true) in
    let z = nodes-some p.tree in
    (omega arith, omega arith, omega arith)

pub returns-then-is : goal.returns-then-is
unfolding codegenFromExpr exprCost ofExpr node emptyTally
returns-then-is c =
    λ u i m e j h q x.
    let b = incdec-at h x q (is-kind c.is.ensures c.if-is.true) in
    rw (b.is, sym c.flag.ensures, sym c.name.ensures) (record { does = (c.codegen_incdec.ensures.does m (rw c.name.ensures b.known)).does; spent = omega arith })

pub get_variable-requires : goal.get_variable-requires
get_variable-requires c =
    let p = c.requires in
    let b = ident-at p.few p.held p.word (is-kind c.is-2.ensures c.if-is-2.true) in
    let z = nodes-some p.tree in
    (omega arith, omega arith)

pub returns-then-is-2 : goal.returns-then-is-2
unfolding codegenFromExpr exprCost ofExpr node emptyTally
returns-then-is-2 c =
    λ u i m e j h q x.
    let b = ident-at h x q (is-kind c.is-2.ensures c.if-is-2.true) in
    rw (b.is, sym c.name-then-is-2.ensures) (record { does = (c.get_variable.ensures.does m (rw c.name-then-is-2.ensures b.known)).does; spent = omega arith })

pub codegen_from_number-requires : goal.codegen_from_number-requires
codegen_from_number-requires c =
    let p = c.requires in
    let b = num-at p.short p.held p.word (is-kind c.is-3.ensures c.if-is-3.true) in
    let z = nodes-some p.tree in
    (record { short = p.short; inside = rw c.pos.ensures b.inside }, omega arith)

pub returns-then-is-3 : goal.returns-then-is-3
unfolding exprCost ofExpr node emptyTally
returns-then-is-3 c =
    λ u i m e j h q x.
    let b = num-at c.requires.short x q (is-kind c.is-3.ensures c.if-is-3.true) in
    rw (b.is, sym c.pos.ensures) (record { does = same (as-number _) c.codegen_from_number.ensures.does.does; spent = omega arith })

pub codegen_from_string-requires : goal.codegen_from_string-requires
codegen_from_string-requires c =
    let p = c.requires in
    let k = else-string p.held p.word p.no-binop p.no-unop (no-kind c.is.ensures c.if-is.false) (no-kind c.is-2.ensures c.if-is-2.false) (no-kind c.is-3.ensures c.if-is-3.false) in
    let b = str-at p.short p.held p.word k in
    let y = str-counts b in
    let z = nodes-some p.tree in
    (record { short = p.short; few = rw c.name-n.ensures b.few; inside = rw (c.name-n.ensures, c.pos-2.ensures) b.inside }, omega arith, omega arith, omega arith)

pub returns : goal.returns
unfolding exprCost ofExpr
returns c =
    λ u i m e j h q x.
    let p = c.requires in
    let k = else-string x q p.no-binop p.no-unop (no-kind c.is.ensures c.if-is.false) (no-kind c.is-2.ensures c.if-is-2.false) (no-kind c.is-3.ensures c.if-is-3.false) in
    let b = str-at p.short x q k in
    rw (b.is, sym c.name-n.ensures, sym c.pos-2.ensures) (record {
      does = same (as-string _) c.codegen_from_string.ensures.does.does;
      spent = omega (arith, chars-length c.args.s.now c.name-n.result c.pos-2.result);
    })
