-- A section's line start, before the lines' end and behind it. Assumes nothing.
use mathlib.Core.Path.{◌≡◌}
use mathlib.Core.Bool.{Bool, not, ◌&&◌, ◌||◌}
use Prim.Native.Nat.{ℕ, ◌<◌, ◌≤◌}
use lib.Dec.{eqb}
use borrow.Author.Tests.{lt-ltb, le-ltb}
use Rattle.rules.specs.Bits.{isOne}
use Rattle.rules.specs.Word.{Run}
use Rattle.rules.specs.Machine.{isFixed}
use Rattle.rules.specs.Tables.{Counts, successOf, startFits}

module _ (u : Counts) (i : ℕ) (r : Run) (a : Bool) (a-is : a ≡ isOne r.lineStart) where
  pub start-early : i < u.lines → a ≡ startFits u i r
  unfolding startFits
  start-early h = rw (lt-ltb _ _ h, startFits) a-is

  pub start-late : u.lines ≤ i → (b : Bool) (n : ℕ) → b ≡ isFixed (successOf r) → n ≡ r.count → not a || not b && eqb n 0 ≡ startFits u i r
  unfolding startFits
  start-late h b n b-is n-is = rw (le-ltb _ _ h, startFits, a-is, b-is, n-is)
