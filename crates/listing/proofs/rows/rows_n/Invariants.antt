-- The rows of the numbers from i on are left to write.
use Rattle.std.proofs.Common.{[], ◌∷◌, drop}
use Rattle.rules.specs.Listing as Listing
use Rattle.text.proofs.Writes.{Left}
use Rattle.listing.proofs.rows.rows_n.Given as goal

abbrev pub invariant-loop-i : goal.invariant-loop-i
invariant-loop-i l = Left l.fn.to (Listing.rowsN 0 l.numbers) l.to (Listing.rowsN l.i (drop l.i l.numbers) ∷ [])
