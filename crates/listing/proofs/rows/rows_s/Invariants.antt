-- The rows of the sections from i on are left to write, and the instructions that are left are theirs.
use Rattle.std.proofs.Common.{◌≡◌, [], ◌∷◌, length, drop}
use Rattle.rules.specs.Tables.{readSections}
use Rattle.rules.specs.Listing as Listing
use Rattle.tables.specs.Runs.{total}
use Rattle.text.proofs.Writes.{Left}
use Rattle.listing.proofs.rows.rows_s.Given as goal

abbrev pub invariant-loop-i : goal.invariant-loop-i
invariant-loop-i l =
    (total (drop l.i l.sections) ≡ length l.rest) × Left l.fn.to (Listing.rowsS 0 (readSections l.sections l.instructions)) l.to (Listing.rowsS l.i (readSections (drop l.i l.sections) l.rest) ∷ [])
