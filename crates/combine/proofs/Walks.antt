-- The turns of loops over words: one more word, and none left. Assumes nothing.
use Rattle.std.specs.Prelude.{◌≡◌, true, false, cond, List, ℕ, ◌+◌, ◌<◌, ◌≤◌, length, drop, get_or}
use Rattle.std.proofs.Common.{add-one, drop-cons}
use Rattle.std.proofs.Math.ListN.{drop_of_length-le}
use Rattle.std.proofs.Math.Seq.{set_out}
use Rattle.rules.specs.Instr.{getSection}
use Rattle.rules.specs.Word.{wordIns}
use Rattle.combine.specs.Counting.{once, more, countSection, countSections, countJump, countJumps}
use Rattle.combine.specs.Tests.{wordAhead, wordsAhead}

-- what is no section is not counted
pub once_past : (t : ℕ) (c : List ℕ) → length c ≤ t → once t c ≡ c
once_past t c h = set_out c t _ h

pub more_past : (t : ℕ) (c : List ℕ) → length c ≤ t → more t c ≡ c
more_past t c h = set_out c t 2 h

module _ (ws : List ℕ) (i : ℕ) where
  -- the test of 15
  module _ (s : List ℕ) (n : ℕ) where
    pub ahead_done : length ws ≤ i → wordsAhead s n i (drop i ws) ≡ true
    unfolding wordsAhead
    ahead_done h = rw (drop_of_length-le ws h)

    pub ahead_more : i < length ws → wordsAhead s n i (drop i ws) ≡ cond (wordAhead s n i (get_or ws i 0)) (wordsAhead s n (i + 1) (drop (i + 1) ws)) false
    unfolding wordsAhead
    ahead_more h = rw (drop-cons ws i 0 h, add-one)

  -- references counted
  module _ (c : List ℕ) where
    pub sections_done : length ws ≤ i → countSections i (drop i ws) c ≡ c
    unfolding countSections
    sections_done h = rw (drop_of_length-le ws h)

    pub sections_more : i < length ws → countSections i (drop i ws) c ≡ countSections (i + 1) (drop (i + 1) ws) (countSection i (get_or ws i 0) c)
    unfolding countSections
    sections_more h = rw (drop-cons ws i 0 h, add-one)

    pub jumps_done : length ws ≤ i → countJumps (drop i ws) c ≡ c
    unfolding countJumps
    jumps_done h = rw (drop_of_length-le ws h)

    pub jumps_more : i < length ws → countJumps (drop i ws) c ≡ countJumps (drop (i + 1) ws) (countJump (getSection (wordIns (get_or ws i 0))) c)
    unfolding countJumps
    jumps_more h = rw (drop-cons ws i 0 h, add-one)
