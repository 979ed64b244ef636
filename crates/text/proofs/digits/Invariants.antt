-- The digits of x that are still to come, in front of those from k on, are those of v.
use Rattle.std.proofs.Common.{◌≡◌, [], drop}
use Rattle.rules.specs.Listing as Listing
use Rattle.text.proofs.digits.Given as goal

abbrev pub invariant-loop-k : goal.invariant-loop-k
invariant-loop-k l =
    Listing.digits l.k l.x (drop l.k l.d) ≡ Listing.digits 20 l.v []
