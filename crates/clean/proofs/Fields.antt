-- A section's word taken apart again after its number was put in and its successor renumbered. Assumes nothing.
use mathlib.Core.Path.{◌≡◌, refl, ap, ◌∙◌}
use Prim.Native.Nat.{ℕ, ◌<◌}
use native.Mathlib.Omega.{arith}
use borrow.Author.Tests.{ne_eqb}
use Rattle.rules.specs.Bits.{isOne}
use Rattle.rules.specs.Constants.{mark}
use Rattle.rules.specs.Word.{Run, wordRun}
use Rattle.rules.specs.Machine.{SectionOrLine, unfixed, section, line, isFixed}
use Rattle.rules.specs.Tables.{successOf, kindOf, targetOf}
use Rattle.rules.specs.Clean.{renNext}
use Rattle.laws.proofs.Words.{run-back, wordRun-small}
use Rattle.words.specs.Runs as Runs
use Rattle.laws.proofs.SectionWord.{kind-lt, target-again}
use Rattle.tables.specs.Runs.{fixedWord, countOf}
use Rattle.clean.specs.Pass.{firstOf, withFirst, withTarget}

pub first-run : (k w : ℕ) → k < 65536 → wordRun (withFirst k w) ≡ Runs.withFirst k (wordRun w)
unfolding withFirst
first-run k w h = let s = wordRun-small w in run-back (Runs.withFirst k (wordRun w)) (s.0, (s.1.0, (s.1.1.0, (h, (s.1.1.1.1.0, tt)))))

module _ (f : ℕ → ℕ) (fb : (t : ℕ) → f t < mark) where
  -- a renumbered successor is read back as it was written
  again : (l k c : ℕ) (s : SectionOrLine) → successOf (Runs.run l (kindOf (renNext f s)) (targetOf (renNext f s)) k c) ≡ renNext f s
  unfolding successOf kindOf targetOf isOne
  again l k c unfixed = refl
  again l k c (section t) = rw (ne_eqb (f t) mark (λ e. let h = fb t in omega arith), successOf)
  again l k c (line n) = refl

  small-by : (s : SectionOrLine) → targetOf s < 65536 → targetOf (renNext f s) < 65536
  unfolding targetOf
  small-by unfixed h = h
  small-by (section t) h = let k = fb t in omega arith
  small-by (line n) h = h

  fixed-by : (s : SectionOrLine) → isFixed (renNext f s) ≡ isFixed s
  fixed-by unfixed = refl
  fixed-by (section t) = refl
  fixed-by (line n) = refl

  abbrev turned : ℕ → Run
  turned w = Runs.withSuccess (renNext f (successOf (wordRun w))) (wordRun w)

  pub target-run : (w : ℕ) → wordRun (withTarget f w) ≡ turned w
  unfolding withTarget
  target-run w =
      let s = wordRun-small w in
      let t : targetOf (successOf (wordRun w)) < 65536 = rw (target-again (wordRun w)) s.1.1.0 in
      run-back (turned w) (s.0, (kind-lt _, (small-by (successOf (wordRun w)) t, (s.1.1.1.0, (s.1.1.1.1.0, tt)))))

  target-success : (w : ℕ) → successOf (wordRun (withTarget f w)) ≡ renNext f (successOf (wordRun w))
  target-success w = ap successOf (target-run w) ∙ again _ _ _ (successOf (wordRun w))

  first-success : (x w : ℕ) → x < 65536 → successOf (wordRun (withFirst x w)) ≡ successOf (wordRun w)
  unfolding successOf
  first-success x w h = rw (first-run x w h)

  -- both
  module _ (x w : ℕ) (h : x < 65536) where
    pub both-start : (wordRun (withTarget f (withFirst x w))).lineStart ≡ (wordRun w).lineStart
    both-start = ap (λ (r : Run). r.lineStart) (target-run (withFirst x w)) ∙ ap (λ (r : Run). r.lineStart) (first-run x w h)

    pub both-run-count : (wordRun (withTarget f (withFirst x w))).count ≡ (wordRun w).count
    both-run-count = ap (λ (r : Run). r.count) (target-run (withFirst x w)) ∙ ap (λ (r : Run). r.count) (first-run x w h)

    pub both-count : countOf (withTarget f (withFirst x w)) ≡ countOf w
    unfolding countOf
    both-count = both-run-count

    pub both-success : successOf (wordRun (withTarget f (withFirst x w))) ≡ renNext f (successOf (wordRun w))
    both-success = target-success (withFirst x w) ∙ ap (renNext f) (first-success x w h)

    pub both-fixed : fixedWord (withTarget f (withFirst x w)) ≡ fixedWord w
    unfolding fixedWord
    both-fixed = ap isFixed both-success ∙ fixed-by (successOf (wordRun w))

  pub first-kept : (w : ℕ) → firstOf (withTarget f w) ≡ firstOf w
  unfolding firstOf
  first-kept w = ap (λ (r : Run). r.first) (target-run w)

pub first-is : (k w : ℕ) → k < 65536 → firstOf (withFirst k w) ≡ k
unfolding firstOf
first-is k w h = ap (λ (r : Run). r.first) (first-run k w h)
