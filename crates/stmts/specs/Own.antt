-- What lowering a statement's own instructions asks: its expression is held at node i, and there is room for it and for a instructions, n numbers
-- and v values more.
use Rattle.rules.specs.Constants.{instrsANode, numbersANode}
use Rattle.std.specs.Prelude.{List, ℕ, ◌+◌, ◌*◌, ◌<◌}
use Rattle.rules.specs.Tree.{ofExpr}
use Rattle.codegen.specs.declared.state.Counters.{Counters}
use Rattle.codegen.specs.Costs.{Room}
use Rattle.exprs.specs.Exprs.{Ready}

pub record Holding (s t : List ℕ) (i : ℕ) (c : Counters) (a n v il nl sl pl ml : ℕ) : Type 0 where
  pub ready : Ready s t i c il nl sl pl ml
  pub room : Room c (instrsANode * (ofExpr ready.tree).nodes + a) (numbersANode * (ofExpr ready.tree).nodes + n) (3 * (ofExpr ready.tree).nodes + v) il nl

-- an assignment to the name x
pub record Setting (s t : List ℕ) (i : ℕ) (c : Counters) (x il nl sl pl ml : ℕ) : Type 0 where
  pub holding : Holding s t i c 8 2 2 il nl sl pl ml
  pub known : x < holding.ready.names
