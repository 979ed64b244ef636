-- The rows of the names from i on are left to write.
use Rattle.std.proofs.Common.{[], ◌∷◌, drop}
use Rattle.rules.specs.Listing as Listing
use Rattle.text.proofs.Writes.{Left}
use Rattle.listing.proofs.rows.rows_v.Given as goal

abbrev pub invariant-loop-i : goal.invariant-loop-i
invariant-loop-i l = Left l.fn.to (Listing.rowsV 0 l.names) l.to (Listing.rowsV l.i (drop l.i l.names) ∷ [])
