-- Sections read from words and written to words, one by one; runs cover the counted instructions. Assumes nothing.
use mathlib.Core.Path.{◌≡◌, refl, sym, ap, ◌∙◌}
use mathlib.Core.Bool.{Bool, true, false, cond}
use mathlib.Core.List.{List, [], ◌∷◌}
use Prim.Native.Nat.{ℕ, suc, ◌+◌}
use native.Mathlib.Omega.{arith}
use lib.Dec.{eqb}
use lib.ListN.{length, take, drop}
use borrow.Author.Tests.{eqb-true}
use Rattle.rules.specs.Word.{wordRun, runWord}
use Rattle.rules.specs.Machine.{SectionOrLine, SectionCode}
use Rattle.rules.specs.Tables.{Tables, Counts, allb, runsFit, readSections, sectionRun, runOf}
use Rattle.rules.specs.Operations.{fixedHere}
use Rattle.tables.specs.Rules.{sectionFits}
use Rattle.tables.specs.Runs.{countOf, total, sectionOf, fixedWord}
use Rattle.std.proofs.lemmas.Bool.{false≢true}
use Rattle.tables.proofs.Sound.{Sound}

pub read-nil : (is : List ℕ) → readSections [] is ≡ []
unfolding readSections
read-nil is = refl

pub read-cons : (w : ℕ) (ws is : List ℕ) → readSections (w ∷ ws) is ≡ sectionOf w is ∷ readSections ws (drop (countOf w) is)
unfolding readSections countOf
read-cons w ws is = refl

pub read-length : (ws is : List ℕ) → length (readSections ws is) ≡ length ws
unfolding readSections
read-length [] is = refl
read-length (w ∷ ws) is = ap suc (read-length ws (drop (wordRun w).count is))

-- a section's word by its parts
pub word-is : (k : ℕ) (s : SectionCode) (l : Bool) (o : SectionOrLine) (c : ℕ) → l ≡ s.lineStart → o ≡ s.success → c ≡ length s.instrs → runWord (runOf l o k c) ≡ runWord (sectionRun s k)
word-is k s l o c p q r = rw (p, q, r)

pub count-is : (w : ℕ) → (wordRun w).count ≡ countOf w
unfolding countOf
count-is w = refl

pub fixed-is : (w : ℕ) (is : List ℕ) → fixedHere (sectionOf w is) ≡ fixedWord w
unfolding fixedHere fixedWord
fixed-is w is = refl

-- ---- all

pub all-nil : {A : Type 0} (p : A → Bool) → allb p [] ≡ true
unfolding allb
all-nil p = refl

pub all-cons : {A : Type 0} (p : A → Bool) (x : A) (xs : List A) (b : Bool) → p x ≡ b → allb p (x ∷ xs) ≡ cond b (allb p xs) false
unfolding allb
all-cons p x xs true e = rw (e, allb)
all-cons p x xs false e = rw (e, allb)

-- ---- the runs' total

pub total-nil : total [] ≡ 0
unfolding total
total-nil = refl

pub total-cons : (w : ℕ) (ws : List ℕ) → total (w ∷ ws) ≡ countOf w + total ws
unfolding total
total-cons w ws = refl

pub runs-cons : (u : Counts) (i k w : ℕ) (ws : List ℕ) (b : Bool) → sectionFits u i k w ≡ b → runsFit u i k (w ∷ ws) ≡ cond b (runsFit u (suc i) (k + countOf w) ws) false
unfolding runsFit sectionFits countOf
runs-cons u i k w ws true e = rw (e, runsFit)
runs-cons u i k w ws false e = rw (e, runsFit)

pub runs-nil : (u : Counts) (i k : ℕ) → runsFit u i k [] ≡ eqb k u.instrs
unfolding runsFit
runs-nil u i k = refl

runs-total : (u : Counts) (ws : List ℕ) (i k : ℕ) → runsFit u i k ws ≡ true → k + total ws ≡ u.instrs
unfolding total
runs-total u [] i k e = let z : k ≡ u.instrs = eqb-true _ _ (sym (runs-nil u i k) ∙ e) in omega arith
runs-total u (w ∷ ws) i k e = by (sectionFits u i k w) refl (runs-total u ws (suc i) (k + countOf w))
  where
    by : (b : Bool) → sectionFits u i k w ≡ b → (runsFit u (suc i) (k + countOf w) ws ≡ true → k + countOf w + total ws ≡ u.instrs) → k + (countOf w + total ws) ≡ u.instrs
    by true d ih = let z = ih (sym (runs-cons u i k w ws true d) ∙ e) in omega arith
    by false d ih = absurd (false≢true (sym (runs-cons u i k w ws false d) ∙ e))

pub whole-total : (t : Tables) (u : Counts) → Sound t u → total (take u.sections t.sections) ≡ u.instrs
whole-total t u s = let z = runs-total u (take u.sections t.sections) 0 0 s.runs in omega arith
