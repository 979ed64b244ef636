-- Each way out of the test of 15 on one section. Assumes nothing.
use mathlib.Core.Path.{◌≡◌, refl, ◌∙◌}
use mathlib.Core.Bool.{Bool, true, ◌||◌}
use mathlib.Core.Option.{none, some}
use mathlib.Core.List.{List}
use Prim.Native.Nat.{ℕ, ◌<◌, ◌≤◌}
use lib.Dec.{leb}
use lib.ListN.{get_or}
use borrow.Author.Tests.{lt-ltb, le-ltb}
use Rattle.rules.specs.Bits.{isOne}
use Rattle.rules.specs.Word.{wordRun}
use Rattle.rules.specs.Machine.{SectionOrLine, unfixed, section, line}
use Rattle.rules.specs.Tables.{successOf}
use Rattle.combine.specs.Counting.{nextOf}
use Rattle.combine.specs.Tests.{startAt, nextIn, wordAhead}

module _ (s : List ℕ) (n i w : ℕ) where
  pub ahead-none : none ≡ nextOf (successOf (wordRun w)) → true ≡ wordAhead s n i w
  unfolding wordAhead
  ahead-none q = free (successOf (wordRun w)) q
    where
      free : (y : SectionOrLine) → none ≡ nextOf y → true ≡ nextIn s n i y
      free unfixed q = refl
      free (section t) q = cc
      free (line r) q = refl

  module _ (t : ℕ) (q : some t ≡ nextOf (successOf (wordRun w))) where
    by-both : startAt s n t || leb i t ≡ wordAhead s n i w
    unfolding wordAhead
    by-both = tested (successOf (wordRun w)) q
      where
        tested : (y : SectionOrLine) → some t ≡ nextOf y → startAt s n t || leb i t ≡ nextIn s n i y
        tested unfixed e = cc
        tested (section u) e = let z : t ≡ u = cc in rw z
        tested (line r) e = cc

    pub ahead-past : n ≤ t → true ≡ wordAhead s n i w
    unfolding startAt
    ahead-past h = (rw (le-ltb t n h)) ∙ by-both

    pub ahead-there : t < n → (b : Bool) → b ≡ isOne (wordRun (get_or s t 0)).lineStart → b || leb i t ≡ wordAhead s n i w
    unfolding startAt
    ahead-there h b b-is = (rw (lt-ltb t n h, b-is)) ∙ by-both
