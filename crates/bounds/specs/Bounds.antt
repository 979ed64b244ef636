-- How large the counts of a parsed tree's machine may be; proofs/Bounds shows that they are no larger.
use Rattle.std.specs.Prelude.{◌≡◌, refl, List, [], ◌∷◌, ◌+◌, ◌*◌, ◌≤◌, ◌<◌}
use Rattle.std.proofs.Common.{arith}
use Rattle.rules.specs.Constants.{mostNodes, mostLines, mostNames, numbersANode, instrsANode, sectionsAStatement}
use Rattle.rules.specs.Tree.{Tree, Expr, Block, Tally, both, node, statement, ofExpr, ofBlock, ofLines, binop, unop, ident, number, string, goto, ite, assign, end}
use Rattle.rules.specs.Tree as Tree
use Rattle.rules.specs.Tables.{Counts}

pub record Few (k : Tally) : Type 0 where
  pub statements : k.statements ≤ k.nodes
  pub strings : k.strings ≤ k.nodes

few-both : (j k : Tally) → Few j → Few k → Few (both j k)
unfolding both
few-both j k p q = record { statements = omega arith; strings = omega arith }

few-expr : (e : Expr) → ((ofExpr e).statements ≡ 0) × ((ofExpr e).strings ≤ (ofExpr e).nodes)
unfolding ofExpr node both Tree.emptyTally
few-expr (binop o l r) = (omega (arith, (few-expr l).0, (few-expr r).0), omega (arith, (few-expr l).1, (few-expr r).1))
few-expr (unop o r) = ((few-expr r).0, omega (arith, (few-expr r).1))
few-expr (Expr.incdec b x) = (refl, omega arith)
few-expr (ident x) = (refl, omega arith)
few-expr (number z) = (refl, omega arith)
few-expr (string t) = (refl, omega arith)

few-block : (b : Block) → Few (ofBlock b)
unfolding ofBlock statement node both Tree.emptyTally
few-block end = record { statements = omega arith; strings = omega arith }
few-block (goto e s) = let p = few-expr e in let q = few-block s in record { statements = omega (arith, p.0, q.statements); strings = omega (arith, p.1, q.strings) }
few-block (ite c t e s) =
    let p = few-expr c in
    let q = few-block t in
    let r = few-block e in
    let w = few-block s in
    record { statements = omega (arith, p.0, q.statements, r.statements, w.statements); strings = omega (arith, p.1, q.strings, r.strings, w.strings) }
few-block (Block.incdec i x s) = let q = few-block s in record { statements = omega (arith, q.statements); strings = omega (arith, q.strings) }
few-block (assign x o e s) = let p = few-expr e in let q = few-block s in record { statements = omega (arith, p.0, q.statements); strings = omega (arith, p.1, q.strings) }

pub few-lines : (bs : List Block) → Few (ofLines bs)
unfolding ofLines Tree.emptyTally
few-lines [] = record { statements = omega arith; strings = omega arith }
few-lines (b ∷ bs) = few-both (ofBlock b) (ofLines bs) (few-block b) (few-lines bs)

pub record Small (u : Counts) : Type 0 where
  pub some-lines : 0 < u.lines
  pub lines : u.lines ≤ mostLines
  pub sections : u.sections ≤ mostLines + sectionsAStatement * mostNodes
  pub instrs : u.instrs ≤ instrsANode * mostNodes
  pub numbers : u.numbers ≤ numbersANode * mostNodes
  pub strings : u.strings ≤ mostNodes
  pub pool : u.pool ≤ 37449
  pub names : u.names ≤ mostNames
  pub values : u.values ≤ 6144
