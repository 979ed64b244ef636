-- The test of 15 on words.
use Rattle.std.specs.Prelude.{Bool, ◌||◌, List, [], ◌∷◌, ℕ, suc, get_or}
use Rattle.std.proofs.Math.Bool.{true, false, cond}
use Rattle.std.proofs.Math.Dec.{leb, ltb}
use Rattle.rules.specs.Bits.{isOne}
use Rattle.rules.specs.Word.{wordRun}
use Rattle.rules.specs.Machine.{SectionOrLine, unfixed, section, line}
use Rattle.rules.specs.Tables.{successOf}

-- is section t of the first n words s a line start, or not there?
unfoldable pub startAt : List ℕ → ℕ → ℕ → Bool
unfolding isOne
startAt s n t = cond (ltb t n) (isOne (wordRun (get_or s t 0)).lineStart) true

-- section i's successor is a line start or does not lie below it
abbrev pub nextIn : List ℕ → ℕ → ℕ → SectionOrLine → Bool
nextIn s n i unfixed = true
nextIn s n i (section t) = startAt s n t || leb i t
nextIn s n i (line r) = true

unfoldable pub wordAhead : List ℕ → ℕ → ℕ → ℕ → Bool
unfolding successOf startAt
wordAhead s n i w = nextIn s n i (successOf (wordRun w))

-- and so for the words from number i on
unfoldable pub wordsAhead : List ℕ → ℕ → ℕ → List ℕ → Bool
unfolding wordAhead
wordsAhead s n i [] = true
wordsAhead s n i (w ∷ ws) = cond (wordAhead s n i w) (wordsAhead s n (suc i) ws) false
