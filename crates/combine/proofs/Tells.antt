-- Which section a section's word tells. Assumes nothing.
use Rattle.rules.specs.Constants.{mostCount}
use Rattle.std.specs.Prelude.{◌≡◌, List, [], ◌∷◌, ℕ, ◌+◌, ◌<◌, ◌≤◌, length}
use Rattle.std.proofs.Common.{sym, ap, ◌∙◌, arith, length-append}
use Rattle.rules.specs.Bits.{isOne}
use Rattle.rules.specs.Word.{runWord, wordRun}
use Rattle.rules.specs.Machine.{SectionCode}
use Rattle.rules.specs.Tables.{successOf, runWords, allCode, runOf}
use Rattle.rules.specs.Preservation.{All}
use Rattle.laws.proofs.SectionWord.{start-is, next-is, count-is}
use Rattle.laws.specs.Sections.{words-nil, words-cons, code-nil, code-cons}
use Rattle.combine.specs.Held.{SectSmall}
use Rattle.tables.specs.Runs.{countOf, total}

-- the word w tells the section s, wherever its run begins
pub record Tells (w : ℕ) (s : SectionCode) : Type 0 where
  pub start : isOne (wordRun w).lineStart ≡ s.lineStart
  pub next : successOf (wordRun w) ≡ s.success
  pub count : (wordRun w).count ≡ length s.instrs

abbrev pub Tell : List ℕ → List SectionCode → Type 0
Tell [] [] = Unit {0}
Tell [] (s ∷ ss) = ⊥
Tell (w ∷ ws) [] = ⊥
Tell (w ∷ ws) (s ∷ ss) = Tells w s × Tell ws ss

-- ---- the words of sections

-- how long a section's code and that behind it is
pub code-longer : (s : SectionCode) (ss : List SectionCode) → length (allCode (s ∷ ss)) ≡ length s.instrs + length (allCode ss)
code-longer s ss = ap length (code-cons s ss) ∙ length-append s.instrs (allCode ss)

-- the word of a section tells it
pub tells : (s : SectionCode) (k : ℕ) → SectSmall s → k + length s.instrs ≤ mostCount → Tells (runWord (runOf s.lineStart s.success k (length s.instrs))) s
tells s k h l =
    let p : k < 65536 = omega arith in
    let q : length s.instrs < 65536 = omega arith in
    record {
      start = start-is s.lineStart s.success k (length s.instrs) h.0 p q;
      next = next-is s.lineStart s.success k (length s.instrs) h.0 p q;
      count = count-is s.lineStart s.success k (length s.instrs) h.0 p q;
    }

pub tell : (ss : List SectionCode) (k : ℕ) → All SectSmall ss → k + length (allCode ss) ≤ mostCount → Tell (runWords k ss) ss
tell [] k h l = rw words-nil tt
tell (s ∷ ss) k h l =
    let z = code-longer s ss in
    rw words-cons (tells s k h.0 (omega arith), tell ss (k + length s.instrs) h.1 (omega arith))

tells-count : (w : ℕ) (s : SectionCode) → Tells w s → countOf w ≡ length s.instrs
unfolding countOf
tells-count w s t = t.count

pub tell-total : (ws : List ℕ) (ss : List SectionCode) → Tell ws ss → total ws ≡ length (allCode ss)
unfolding total
tell-total [] [] t = rw code-nil
tell-total [] (s ∷ ss) t = absurd t
tell-total (w ∷ ws) [] t = absurd t
tell-total (w ∷ ws) (s ∷ ss) t = rw (tells-count w s t.0, tell-total ws ss t.1) (sym (code-longer s ss))
