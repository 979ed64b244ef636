-- Finish and combine, where they do not refuse: whatever the order in which the machine that they combine is joined to the end, the end has the counts and
-- the words that the call leaves.
use Rattle.std.specs.Prelude.{◌≡◌, List, ℕ}
use Rattle.rules.specs.Bits.{ok}
use Rattle.rules.specs.Clean.{cleaned}
use Rattle.rules.specs.JoinOrder.{EndsIn}
use Rattle.rules.specs.Lowered.{Options, lowered}
use Rattle.rules.specs.Machine.{Machine}
use Rattle.rules.specs.Operations.{sizeOf, estimate, write, finish, combine}
use Rattle.rules.specs.Parse.{parse}
use Rattle.rules.specs.Tables.{Tables, Counts, countsOf, decode}
use Rattle.rules.specs.Tree.{Tree}

-- of the tree that was read, cleaned: finish answers the counts of each end, and leaves its words, with zeros up to the estimates
pub record FinishesInAnyOrder (o : Options) (s : List ℕ) (l : Tables) : Type 0 where
  pub tree : Tree
  pub parsed : parse s ≡ ok tree
  pub words : (ps : List (ℕ × ℕ)) (n : Machine) → EndsIn (cleaned (lowered o tree)) ps n → finish o s l ≡ (ok (countsOf n), write (estimate (sizeOf tree)) n l)

-- of the machine that was handed in: combine answers the counts of each end, and leaves its words, with zeros behind
pub record CombinesInAnyOrder (l : Tables) (u : Counts) : Type 0 where
  pub machine : Machine
  pub decoded : decode l u ≡ ok machine
  pub words : (ps : List (ℕ × ℕ)) (n : Machine) → EndsIn machine ps n → combine l u ≡ (ok (countsOf n), write u n l)
