-- What listing a machine in lent tables asks, and what it leaves in the lent bytes.
use Rattle.std.specs.Prelude.{◌≡◌, true, List, ℕ, ◌≤◌, length}
use Rattle.rules.specs.Bits.{ok}
use Rattle.rules.specs.Machine.{Machine}
use Rattle.rules.specs.Tables.{Tables, Counts, fits, decode}
use Rattle.rules.specs.Listing.{listing}
use Rattle.text.specs.Wrote.{Prints}

-- the words hold a machine, and there is room for its rows
pub record Lists (t : Tables) (u : Counts) (o : List ℕ) : Type 0 where
  pub machine : fits t u ≡ true
  pub room : (m : Machine) → decode t u ≡ ok m → length (listing m) ≤ length o

-- the first r bytes are its rows, all others as they were
pub record Listed (t : Tables) (u : Counts) (o o' : List ℕ) (r : ℕ) : Type 0 where
  pub prints : (m : Machine) → decode t u ≡ ok m → Prints o o' r (listing m)
