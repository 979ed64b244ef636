-- What section words say, and what a move leaves, told of words.
use Rattle.std.specs.Prelude.{Bool, ◌≡◌, List, [], ◌∷◌, ◌++◌, map, ℕ, ◌+◌, take, drop}
use Rattle.rules.specs.Bits.{isOne}
use Rattle.rules.specs.Word.{wordRun, wordIns}
use Rattle.rules.specs.Machine.{SectionCode, isFixed}
use Rattle.rules.specs.Tables.{successOf, readSections}

-- is a section's word fixed?
unfoldable pub fixedWord : ℕ → Bool
fixedWord w = isFixed (successOf (wordRun w))

-- the instructions of a section's word, and of all of them
unfoldable pub countOf : ℕ → ℕ
countOf w = (wordRun w).count

unfoldable pub total : List ℕ → ℕ
total [] = 0
total (w ∷ ws) = countOf w + total ws

-- the section of a word, whose instructions are the first of the words `is`
abbrev pub sectionOf : ℕ → List ℕ → SectionCode
sectionOf w is = record { lineStart = isOne (wordRun w).lineStart; instrs = map wordIns (take (wordRun w).count is); success = successOf (wordRun w) }

-- the sections that n section words and e instruction words hold
unfoldable pub held : List ℕ → List ℕ → ℕ → ℕ → List SectionCode
held ss is n e = readSections (take n ss) (take e is)

-- c words at a moved down to b: what stands before and behind
pub record Down {A : Type 0} (l l' : List A) (a b c : ℕ) : Type 0 where
  pub front : take (b + c) l' ≡ take b l ++ take c (drop a l)
  pub back : drop (a + c) l' ≡ drop (a + c) l
