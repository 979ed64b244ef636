-- References in words: counted over section words and instruction words, of each section up to two.
use Rattle.std.specs.Prelude.{Bool, cond, not, List, [], ◌∷◌, ℕ, suc, eqb, length, get_or, set, replicate}
use Rattle.std.proofs.Math.Option.{Option, none, some}
use Rattle.rules.specs.Bits.{isOne}
use Rattle.rules.specs.Instr.{getSection}
use Rattle.rules.specs.Word.{wordRun, wordIns}
use Rattle.rules.specs.Machine.{SectionOrLine, unfixed, section, line}
use Rattle.rules.specs.Tables.{successOf}

-- the section that a successor is
abbrev pub nextOf : SectionOrLine → Option ℕ
nextOf unfixed = none
nextOf (section t) = some t
nextOf (line r) = none

-- ---- a count for each section: none, one, or more, which is 2

abbrev pub once : ℕ → List ℕ → List ℕ
once t c = set c t (cond (eqb (get_or c t 0) 0) 1 2)

abbrev pub more : ℕ → List ℕ → List ℕ
more t c = set c t 2

-- section s goes on to t: one more reference, but its own are more than one
abbrev pub countNext : ℕ → ℕ → List ℕ → List ℕ
countNext s t c = cond (eqb t s) (more t c) (once t c)

abbrev pub countSuccess : ℕ → Option ℕ → List ℕ → List ℕ
countSuccess s none c = c
countSuccess s (some t) c = countNext s t c

-- the word of section s: the start of a line counts as more than one reference
unfoldable pub countSection : ℕ → ℕ → List ℕ → List ℕ
unfolding successOf isOne
countSection s w c = countSuccess s (nextOf (successOf (wordRun w))) (cond (isOne (wordRun w).lineStart) (more s c) c)

-- and of the sections from number s on
unfoldable pub countSections : ℕ → List ℕ → List ℕ → List ℕ
unfolding countSection
countSections s [] c = c
countSections s (w ∷ ws) c = countSections (suc s) ws (countSection s w c)

-- a jump counts as more than one reference
abbrev pub countJump : Option ℕ → List ℕ → List ℕ
countJump none c = c
countJump (some t) c = more t c

unfoldable pub countJumps : List ℕ → List ℕ → List ℕ
unfolding getSection
countJumps [] c = c
countJumps (w ∷ ws) c = countJumps ws (countJump (getSection (wordIns w)) c)

-- of all the words, each section's
abbrev pub countsOf : List ℕ → List ℕ → List ℕ
countsOf s i = countJumps i (countSections 0 s (replicate (length s) 0))

-- is it another count than one? Then none takes the section in
abbrev pub isHead : ℕ → Bool
isHead k = not (eqb k 1)

-- and so past the table, where there is none to take in
abbrev pub headBy : List ℕ → ℕ → Bool
headBy c t = isHead (get_or c t 0)
