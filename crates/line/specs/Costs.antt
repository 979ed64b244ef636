-- How many instructions a node gives by its word, and the nodes of a range. The first sections of all lines stand first in the table of
-- instructions, so their own instructions are counted before lowering starts.
use Rattle.std.specs.Prelude.{cond, List, ℕ, zero, suc, ◌+◌, ◌≤◌, ◌<◌, eqb, get_or}
use Rattle.rules.specs.Constants.{mostNodes}
use Rattle.rules.specs.Tree.{Gt, Atan, PowTo}
use Rattle.rules.specs.Parse.{binops, unops, assignops}
use Rattle.nodes.specs.Words.{binopKind, unopKind, assignKind, identKind, numberKind, stringKind, iteKind, kindIn, nameIn, opIn}
use Rattle.codegen.specs.Costs.{binopCost, unopCost}
use Rattle.stmts.specs.Told.{assignCost}
use Rattle.stmts.specs.Makes.{jumpCost}
use Rattle.stmts.specs.Lists.{Held}

-- by kind, operator and name (of an Ite: its then-list's count)
unfoldable pub kindCost : ℕ → ℕ → ℕ → ℕ
kindCost k o a =
    cond (eqb k binopKind) (2 + binopCost (get_or binops o Gt))
    (cond (eqb k unopKind) (1 + unopCost (get_or unops o Atan))
    (cond (eqb k assignKind) (assignCost (get_or assignops o PowTo))
    (cond (eqb k identKind) 0 (cond (eqb k numberKind) 1 (cond (eqb k stringKind) 1 (cond (eqb k iteKind) (1 + jumpCost (eqb a 0)) 2))))))

unfoldable pub nodeCost : ℕ → ℕ
nodeCost w = kindCost (kindIn w) (opIn w) (nameIn w)

-- of n nodes from i on
unfoldable pub costs : List ℕ → ℕ → ℕ → ℕ
costs t i zero = 0
costs t i (suc n) = nodeCost (get_or t i 0) + costs t (i + 1) n

-- a list of `count` statements is held at node i of a tree's table, however deep
pub record ListAt (t : List ℕ) (i count : ℕ) : Type 0 where
  pub file : List ℕ
  pub depth : ℕ
  pub list : Held file t i count depth
  pub small : list.last ≤ mostNodes

-- and there is a statement
pub record SomeAt (t : List ℕ) (i : ℕ) : Type 0 where
  pub count : ℕ
  pub at : ListAt t i count
  pub some : 0 < count
