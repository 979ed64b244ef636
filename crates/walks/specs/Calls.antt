-- Lower and finish, where they do not refuse: the tables hold the tree's machine, whose walk preserves the tree's reading.
use Rattle.std.specs.Prelude.{◌≡◌, List, ℕ}
use Rattle.rules.specs.Bits.{ok}
use Rattle.rules.specs.Tree.{Tree}
use Rattle.rules.specs.Parse.{parse}
use Rattle.rules.specs.Tables.{Tables, Counts, countsOf, decode}
use Rattle.rules.specs.Lowered.{Options, lowered, finished}
use Rattle.rules.specs.Operations.{lower, finish}
use Rattle.rules.specs.Preservation.{Preserves}

-- The words that lower leaves read as the lowered machine of the tree.
pub record Lowers (o : Options) (s : List ℕ) (l : Tables) (u : Counts) : Type 0 where
  pub tree : Tree
  pub parsed : parse s ≡ ok tree
  pub counts : u ≡ countsOf (lowered o tree)
  pub machine : decode (lower o s l).1 u ≡ ok (lowered o tree)

-- The words that finish leaves read as the finished machine of the tree; both walks agree on every list of outcomes.
pub record Finishes (o : Options) (s : List ℕ) (l : Tables) (u : Counts) : Type 0 where
  pub tree : Tree
  pub parsed : parse s ≡ ok tree
  pub counts : u ≡ countsOf (finished o tree)
  pub machine : decode (finish o s l).1 u ≡ ok (finished o tree)
  pub preserves : (os : List ℕ) → Preserves o tree os
