-- The words of sections hold them: what is written is read back. Assumes nothing.
use Rattle.std.specs.Prelude.{◌≡◌, refl, Bool, List, [], ◌∷◌, ◌++◌, map, ℕ, length, drop}
use Rattle.std.proofs.lemmas.List.{map-append, length-map}
use Rattle.std.proofs.Common.{arith, take_at, drop_at}
use Rattle.rules.specs.Instr.{Instruction}
use Rattle.rules.specs.Word.{insWord, wordIns}
use Rattle.rules.specs.Machine.{SectionOrLine, SectionCode}
use Rattle.rules.specs.Tables.{runWords, allCode, readSections}
use Rattle.rules.specs.Preservation.{All}
use Rattle.laws.specs.Words.{InsSmall}
use Rattle.laws.proofs.Words.{ins-back}
use Rattle.laws.specs.Sections.{code-cons}
use Rattle.tables.specs.Runs.{countOf, sectionOf, held}
use Rattle.tables.proofs.Read.{read-nil, read-cons}
use Rattle.combine.specs.Held.{SectSmall, Holds}
use Rattle.combine.proofs.Tells.{Tells, Tell, tell}

pub code-back : (c : List Instruction) → All InsSmall c → map wordIns (map insWord c) ≡ c
code-back [] h = refl
code-back (i ∷ c) h = rw (ins-back i h.0, code-back c h.1)

same-section : {a a' : Bool} {b b' : List Instruction} {c c' : SectionOrLine} → a ≡ a' → b ≡ b' → c ≡ c' → ◌≡◌ {A = SectionCode} (record { lineStart = a; instrs = b; success = c }) (record { lineStart = a'; instrs = b'; success = c' })
same-section p q r = cc

read-one : (w : ℕ) (s : SectionCode) (rest : List ℕ) → Tells w s → SectSmall s → sectionOf w (map insWord s.instrs ++ rest) ≡ s
unfolding countOf
read-one w s rest t h =
    same-section
    t.start
    (rw (t.count, take_at (map insWord s.instrs) rest (length s.instrs) (length-map s.instrs insWord)) (code-back s.instrs h.1))
    t.next

read-rest : (w : ℕ) (s : SectionCode) (rest : List ℕ) → Tells w s → drop (countOf w) (map insWord s.instrs ++ rest) ≡ rest
unfolding countOf
read-rest w s rest t = rw t.count (drop_at (map insWord s.instrs) rest (length s.instrs) (length-map s.instrs insWord))

pub read-tell : (ws : List ℕ) (ss : List SectionCode) → Tell ws ss → All SectSmall ss → readSections ws (map insWord (allCode ss)) ≡ ss
read-tell [] [] t h = rw read-nil
read-tell [] (s ∷ ss) t h = absurd t
read-tell (w ∷ ws) [] t h = absurd t
read-tell (w ∷ ws) (s ∷ ss) t h =
    let is = map insWord s.instrs ++ map insWord (allCode ss) in
    rw (code-cons, map-append, read-cons, read-one w s (map insWord (allCode ss)) t.0 h.0, read-rest w s (map insWord (allCode ss)) t.0, read-tell ws ss t.1 h.1)

module _ (s i : List ℕ) (n e : ℕ) (ss : List SectionCode) (h : Holds s i n e ss) where
  -- the section words tell the sections
  pub holds-tell : Tell (runWords 0 ss) ss
  holds-tell = tell ss 0 h.small (omega (arith, h.code, h.short))

  -- what words hold is read from them
  pub holds-held : held s i n e ≡ ss
  unfolding held
  holds-held = rw (h.sections, h.instrs) (read-tell (runWords 0 ss) ss holds-tell h.small)

  pub sound : Holds s i n e (held s i n e)
  sound = rw holds-held h
