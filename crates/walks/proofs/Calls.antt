-- Lower and finish, where they do not refuse: the tables hold the tree's machine, whose walk preserves the tree's reading.
use Rattle.std.specs.Prelude.{◌≡◌, List, ℕ}
use Rattle.rules.specs.Bits.{ok}
use Rattle.rules.specs.Tables.{Tables, Counts}
use Rattle.rules.specs.Lowered.{Options, lowered, finished}
use Rattle.rules.specs.Operations.{lower, finish}
use Rattle.walks.proofs.PreservationProof.{preservation}
use Rattle.machines.specs.Back.{built}
use Rattle.machines.specs.TreeFits.{lowered-fit, finished-fit}
use Rattle.walks.specs.Calls.{Lowers, Finishes}

pub lowers : (o : Options) (s : List ℕ) (l : Tables) (u : Counts) → (lower o s l).0 ≡ ok u → Lowers o s l u
unfolding lower
lowers o s l u e =
    let b = built (lowered o) (lowered-fit o) s l u e in
    record { tree = b.tree; parsed = b.parsed; counts = b.counts; machine = b.machine }

pub finishes : (o : Options) (s : List ℕ) (l : Tables) (u : Counts) → (finish o s l).0 ≡ ok u → Finishes o s l u
unfolding finish
finishes o s l u e =
    let b = built (finished o) (finished-fit o) s l u e in
    record { tree = b.tree; parsed = b.parsed; counts = b.counts; machine = b.machine; preserves = preservation o s b.tree b.parsed }
