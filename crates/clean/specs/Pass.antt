-- The passes of clean on words: what each leaves in the tables.
use Rattle.std.specs.Prelude.{Bool, true, false, cond, ◌≡◌, List, [], ◌∷◌, ◌++◌, map, ℕ, pred, ◌+◌, ◌-◌, ◌≤◌, ltb, length, take, drop, get_or, replicate}
use Rattle.rules.specs.Bits.{isOne}
use Rattle.rules.specs.Instr.{isJump}
use Rattle.rules.specs.Word.{wordRun, runWord, wordIns, insWord}
use Rattle.rules.specs.Tables.{successOf, readSections, runWords, allCode, runOf}
use Rattle.rules.specs.Clean.{renIns, renNext, rank, cleanSections}
use Rattle.rules.specs.Operations.{put}
use Rattle.words.specs.Runs as Runs
use Rattle.tables.specs.Runs.{fixedWord, countOf, held}

-- ---- words made anew

unfoldable pub firstOf : ℕ → ℕ
firstOf w = (wordRun w).first

unfoldable pub withFirst : ℕ → ℕ → ℕ
withFirst k w = runWord (Runs.withFirst k (wordRun w))

-- a section's word with its successor renumbered, an instruction's with its jump renumbered
unfoldable pub withTarget : (ℕ → ℕ) → ℕ → ℕ
withTarget f w = runWord (Runs.withSuccess (renNext f (successOf (wordRun w))) (wordRun w))

unfoldable pub withJump : (ℕ → ℕ) → ℕ → ℕ
withJump f w = insWord (renIns f (wordIns w))

-- ---- numbers

-- the sections kept up to and including w, k before it
unfoldable pub bump : ℕ → ℕ → ℕ
bump k w = cond (fixedWord w) (k + 1) k

unfoldable pub bumps : ℕ → List ℕ → ℕ
bumps k [] = k
bumps k (w ∷ ws) = bumps (bump k w) ws

-- words that carry the number of sections kept up to and including them
unfoldable pub numbered : ℕ → List ℕ → List ℕ
numbered k [] = []
numbered k (w ∷ ws) = withFirst (bump k w) w ∷ numbered (bump k w) ws

-- the new number of t, where the fields fs carry those numbers and all that are kept are k
unfoldable pub newNumber : List ℕ → ℕ → ℕ → ℕ
newNumber fs k t = pred (cond (ltb t (length fs)) (get_or fs t 0) k)

pub record Numbered (ss ss' : List ℕ) (kept : ℕ) : Type 0 where
  pub sections : ss' ≡ numbered 0 ss
  pub count : kept ≡ bumps 0 ss

-- ---- kept words

-- a section's word with its run from instruction k on
unfoldable pub packedWord : ℕ → ℕ → ℕ
packedWord k w = runWord (runOf (isOne (wordRun w).lineStart) (successOf (wordRun w)) k (wordRun w).count)

-- the kept words, runs from instruction k on; and their instructions
unfoldable pub packed : ℕ → List ℕ → List ℕ
packed k [] = []
packed k (w ∷ ws) = cond (fixedWord w) (packedWord k w ∷ packed (k + countOf w) ws) (packed k ws)

unfoldable pub moved : List ℕ → List ℕ → List ℕ
moved [] is = []
moved (w ∷ ws) is = cond (fixedWord w) (take (countOf w) is ++ moved ws (drop (countOf w) is)) (moved ws (drop (countOf w) is))

-- m kept sections, b instructions
pub record Kept (ss is ss' is' : List ℕ) (m b : ℕ) : Type 0 where
  pub sections : take m ss' ≡ packed 0 ss
  pub instrs : take b is' ≡ moved ss is
  pub fewer : m ≤ length ss
  pub shorter : b ≤ length is

-- zeros behind them
pub record Packed (ss is ss' is' : List ℕ) (m b : ℕ) : Type 0 where
  pub sections : ss' ≡ packed 0 ss ++ replicate (length ss - m) 0
  pub instrs : is' ≡ moved ss is ++ replicate (length is - b) 0
  pub section-count : m ≡ length (packed 0 ss)
  pub instr-count : b ≡ length (moved ss is)
  pub fewer : m ≤ length ss
  pub shorter : b ≤ length is

-- ---- the whole

-- section and instruction words with the new numbers
pub record Renumbered (ss is ss' is' : List ℕ) : Type 0 where
  pub sections : ss' ≡ map (withTarget (rank (readSections ss is))) (numbered 0 ss)
  pub instrs : is' ≡ map (withJump (rank (readSections ss is))) is

-- the cleaned sections' words, m sections and b instructions, and zeros behind them
pub record Removed (ss is ss' is' : List ℕ) (m b : ℕ) : Type 0 where
  pub sections : ss' ≡ runWords 0 (cleanSections (readSections ss is)) ++ replicate (length ss - m) 0
  pub instrs : is' ≡ map insWord (allCode (cleanSections (readSections ss is))) ++ replicate (length is - b) 0
  pub section-count : m ≡ length (cleanSections (readSections ss is))
  pub instr-count : b ≡ length (allCode (cleanSections (readSections ss is)))
  pub fewer : m ≤ length ss
  pub shorter : b ≤ length is

-- the tables of the cleaned sections, with m sections and b instructions, zeros up to n and e
pub record Cleaned (ss is ss' is' : List ℕ) (n e m b : ℕ) : Type 0 where
  pub sections : ss' ≡ put 0 n (runWords 0 (cleanSections (held ss is n e))) ss
  pub instrs : is' ≡ put 0 e (map insWord (allCode (cleanSections (held ss is n e)))) is
  pub section-count : m ≡ length (cleanSections (held ss is n e))
  pub instr-count : b ≡ length (allCode (cleanSections (held ss is n e)))

-- ---- what is refused

-- an instruction that jumps jumps to one of the sections that is fixed
unfoldable pub jumpIn : List ℕ → ℕ → Bool
jumpIn ss w = cond (isJump (wordIns w)) (cond (ltb (wordIns w).fst (length ss)) (fixedWord (get_or ss (wordIns w).fst 0)) false) true
