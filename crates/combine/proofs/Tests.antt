-- The tests of 14 and 15 on words are those of `rules` on what the words hold. Assumes nothing.
use Rattle.std.specs.Prelude.{◌≡◌, Bool, ◌||◌, List, [], ◌∷◌, ℕ, zero, suc, ◌<◌, ◌≤◌, length, take, drop, get_or}
use Rattle.std.proofs.Math.Path.{refl}
use Rattle.std.proofs.Common.{sym, ap, ◌∙◌, arith}
use Rattle.std.proofs.Math.Bool.{true, false, cond}
use Rattle.std.proofs.Math.Option.{none, some}
use Rattle.std.proofs.Math.Dec.{leb, ltb}
use Rattle.std.proofs.Math.ListN.{get_elem?}
use Rattle.std.proofs.Math.Seq.{get_or-take, length-take-le}
use borrow.Author.Tests.{ltb-true, ltb-false}
use Rattle.rules.specs.Bits.{isOne}
use Rattle.rules.specs.Word.{wordRun}
use Rattle.rules.specs.Machine.{SectionOrLine, unfixed, section, line, SectionCode}
use Rattle.rules.specs.Tables.{allb, successOf, readSections}
use Rattle.rules.specs.Operations.{fixedHere, nextAhead, allAhead}
use Rattle.tables.specs.Runs.{countOf, sectionOf, fixedWord}
use Rattle.tables.proofs.Read.{read-nil, read-cons, all-nil, all-cons, fixed-is}
use Rattle.combine.specs.Tests.{startAt, nextIn, wordsAhead}

-- ---- 14

pub fixed-are : (ws is : List ℕ) → allb fixedHere (readSections ws is) ≡ allb fixedWord ws
fixed-are [] is = rw read-nil (all-nil fixedHere ∙ sym (all-nil fixedWord))
fixed-are (w ∷ ws) is = rw (read-cons, all-cons fixedHere (sectionOf w is) (readSections ws (drop (countOf w) is)) _ (fixed-is w is), all-cons fixedWord w ws _ refl, fixed-are ws (drop (countOf w) is))

-- ---- 15

-- what stands at t of what words hold
elem-at : (ws is : List ℕ) (t : ℕ) → t < length ws → (s : SectionCode) × (get_elem? (readSections ws is) t ≡ some s) × (s.lineStart ≡ isOne (wordRun (get_or ws t 0)).lineStart) × (s.success ≡ successOf (wordRun (get_or ws t 0)))
elem-at [] is t h = absurd (omega arith)
elem-at (w ∷ ws) is zero h = rw read-cons (_, refl, refl, refl)
elem-at (w ∷ ws) is (suc t) h = rw read-cons (elem-at ws (drop (countOf w) is) t (omega arith))

elem-past : (ws is : List ℕ) (t : ℕ) → length ws ≤ t → get_elem? (readSections ws is) t ≡ none
elem-past [] is t h = rw read-nil
elem-past (w ∷ ws) is zero h = absurd (omega arith)
elem-past (w ∷ ws) is (suc t) h = rw read-cons (elem-past ws (drop (countOf w) is) t (omega arith))

module _ (s i : List ℕ) (n : ℕ) (h : n ≤ length s) where
  next-is : (k : ℕ) (x : SectionOrLine) → nextAhead (readSections (take n s) i) k x ≡ nextIn s n k x
  unfolding nextAhead startAt
  next-is k unfixed = refl
  next-is k (section t) = go (ltb t n) refl
    where
      go : (b : Bool) → ltb t n ≡ b → elim (get_elem? (readSections (take n s) i) t) as (λ z. Bool) [ none ↦ true | some x ↦ x.lineStart || leb k t ] ≡ cond b (isOne (wordRun (get_or s t 0)).lineStart) true || leb k t
      go true e =
          let p = ltb-true t n e in
          let q = elem-at (take n s) i t (omega (arith, length-take-le n s h)) in
          rw (q.1, q.2, get_or-take n s t 0 p)
      go false e = rw (elem-past (take n s) i t (omega (arith, length-take-le n s h, ltb-false t n e)))
  next-is k (line r) = refl

  aheads-cons : (k : ℕ) (x : SectionCode) (xs : List SectionCode) → allAhead (readSections (take n s) i) k (x ∷ xs) ≡ cond (nextAhead (readSections (take n s) i) k x.success) (allAhead (readSections (take n s) i) (suc k) xs) false
  unfolding allAhead
  aheads-cons k x xs = by (nextAhead (readSections (take n s) i) k x.success)
    where
      by : (b : Bool) → elim b as (λ z. Bool) [ false ↦ false | true ↦ allAhead (readSections (take n s) i) (suc k) xs ] ≡ cond b (allAhead (readSections (take n s) i) (suc k) xs) false
      by true = refl
      by false = refl

  aheads-nil : (k : ℕ) → allAhead (readSections (take n s) i) k [] ≡ wordsAhead s n k []
  unfolding allAhead wordsAhead
  aheads-nil k = refl

  words-cons : (k w : ℕ) (ws : List ℕ) → wordsAhead s n k (w ∷ ws) ≡ cond (nextIn s n k (successOf (wordRun w))) (wordsAhead s n (suc k) ws) false
  unfolding wordsAhead
  words-cons k w ws = refl

  pub ahead-from : (k : ℕ) (ws is : List ℕ) → allAhead (readSections (take n s) i) k (readSections ws is) ≡ wordsAhead s n k ws
  ahead-from k [] is = ap (allAhead (readSections (take n s) i) k) (read-nil is) ∙ aheads-nil k
  ahead-from k (w ∷ ws) is =
      ap (allAhead (readSections (take n s) i) k) (read-cons w ws is)
      ∙ rw (aheads-cons k (sectionOf w is) (readSections ws (drop (countOf w) is)), words-cons k w ws, next-is k (successOf (wordRun w)), ahead-from (suc k) ws (drop (countOf w) is))
