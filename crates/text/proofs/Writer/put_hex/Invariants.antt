-- The digits of the characters from the index on are left to write.
use Rattle.std.proofs.Common.{[], ◌∷◌, drop}
use Rattle.rules.specs.Listing as Listing
use Rattle.text.proofs.Writes.{Left}
use Rattle.text.proofs.Writer.put_hex.Given as goal

abbrev pub invariant-loop-c : goal.invariant-loop-c
invariant-loop-c l = Left l.fn.self (Listing.hex l.s) l.self (Listing.hex (drop l.c-index l.s) ∷ [])
