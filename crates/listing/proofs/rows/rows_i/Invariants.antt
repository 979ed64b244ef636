-- The rows of the instructions from the index on are left to write.
use Rattle.std.proofs.Common.{[], ◌∷◌, map, drop}
use Rattle.rules.specs.Word.{wordIns}
use Rattle.rules.specs.Listing as Listing
use Rattle.text.proofs.Writes.{Left}
use Rattle.listing.proofs.rows.rows_i.Given as goal

abbrev pub invariant-loop-word : goal.invariant-loop-word
invariant-loop-word l = Left l.fn.to (Listing.rowsI (map wordIns l.instructions)) l.to (Listing.rowsI (map wordIns (drop l.word-index l.instructions)) ∷ [])
