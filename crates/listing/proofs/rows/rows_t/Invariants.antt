-- The rows of the texts from i on are left to write.
use Rattle.std.proofs.Common.{[], ◌∷◌, map, drop}
use Rattle.rules.specs.Word.{wordSpan}
use Rattle.rules.specs.Listing as Listing
use Rattle.text.proofs.Writes.{Left}
use Rattle.listing.proofs.rows.rows_t.Given as goal

abbrev pub invariant-loop-i : goal.invariant-loop-i
invariant-loop-i l = Left l.fn.to (Listing.rowsT l.pool 0 (map wordSpan l.strings)) l.to (Listing.rowsT l.pool l.i (map wordSpan (drop l.i l.strings)) ∷ [])
