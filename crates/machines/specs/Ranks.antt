-- Numbers of the sections that cleaning keeps: what stands at t, stands at its rank; the lines' sections keep theirs. A cleaned machine is ready to be combined.
use Rattle.std.specs.Prelude.{◌≡◌, Bool, true, false, List, [], ◌∷◌, ℕ, zero, suc, pred, ◌≤◌, ◌<◌, length, get_or, take}
use Rattle.std.proofs.Math.Path.{refl, ap}
use Rattle.std.proofs.Common.{sym, ◌∙◌, not-suc-le-zero, arith}
use Rattle.std.proofs.Math.ListN.{get_or-map}
use Rattle.rules.specs.Machine.{SectionCode, absent, isFixed}
use Rattle.rules.specs.Clean.{ren, keep, rank, cleanSections}
use Rattle.joins.specs.Along.{Fixed, fixed-map, Ready}
use Rattle.laws.specs.Lists.{not-both}

abbrev pub IsFixedAt : List SectionCode → ℕ → Type 0
IsFixedAt m t = isFixed (get_or m t absent).success ≡ true

-- How many are kept up to and including t.
abbrev kept : List SectionCode → ℕ → ℕ
kept m t = length (keep (take (suc t) m))

kept-pos : (m : List SectionCode) (t : ℕ) → IsFixedAt m t → 0 < kept m t
kept-pos [] t h = absurd (not-both false h refl)
kept-pos (s ∷ m) zero h = rw h (omega arith)
kept-pos (s ∷ m) (suc t) h = go (isFixed s.success) refl (kept-pos m t h)
  where
    go : (b : Bool) → isFixed s.success ≡ b → 0 < kept m t → 0 < kept (s ∷ m) (suc t)
    go true e p = rw e (omega arith)
    go false e p = rw e p

keep-at : (m : List SectionCode) (t : ℕ) → IsFixedAt m t → get_or (keep m) (rank m t) absent ≡ get_or m t absent
keep-at [] t h = absurd (not-both false h refl)
keep-at (s ∷ m) zero h = rw h
keep-at (s ∷ m) (suc t) h = go (isFixed s.success) refl (keep-at m t h)
  where
    up : (n : ℕ) → 0 < n → get_or (s ∷ keep m) n absent ≡ get_or (keep m) (pred n) absent
    up zero p = absurd (not-suc-le-zero p)
    up (suc n) p = refl

    go : (b : Bool) → isFixed s.success ≡ b → get_or (keep m) (rank m t) absent ≡ get_or m t absent → get_or (keep (s ∷ m)) (rank (s ∷ m) (suc t)) absent ≡ get_or m t absent
    go true e p = rw e (up (kept m t) (kept-pos m t h) ∙ p)
    go false e p = rw e p

kept-low : (m : List SectionCode) (t : ℕ) → ((u : ℕ) → u ≤ t → IsFixedAt m u) → kept m t ≡ suc t
kept-low [] t h = absurd (not-both false (h 0 (omega arith)) refl)
kept-low (s ∷ m) zero h = rw (h 0 (omega arith))
kept-low (s ∷ m) (suc t) h = rw (h 0 (omega arith)) (ap suc (kept-low m t (λ u p. h (suc u) (omega arith))))

fixed-keep : (m : List SectionCode) → Fixed (keep m)
fixed-keep [] = tt
fixed-keep (s ∷ m) = go (isFixed s.success) refl (fixed-keep m)
  where
    go : (b : Bool) → isFixed s.success ≡ b → Fixed (keep m) → Fixed (keep (s ∷ m))
    go true e p = rw (e, keep) (e, p)
    go false e p = rw (e, keep) p

module _ (L : ℕ) (pos : 0 < L) (m : List SectionCode) (fixed-lines : (t : ℕ) → t < L → IsFixedAt m t) where
  pub rank-low : (t : ℕ) → t < L → rank m t ≡ t
  rank-low t h = ap pred (kept-low m t (λ u p. fixed-lines u (omega arith)))

  pub at-rank : (t : ℕ) → IsFixedAt m t → get_or (cleanSections m) (rank m t) absent ≡ ren (rank m) (get_or m t absent)
  unfolding cleanSections
  at-rank t h = get_or-map (ren (rank m)) (keep m) (rank m t) absent ∙ ap (ren (rank m)) (keep-at m t h)

  pub clean-ready : ((t : ℕ) → t < L → (get_or m t absent).lineStart ≡ true) → Ready L (cleanSections m)
  unfolding cleanSections
  clean-ready h =
      record {
        fixed = fixed-map (rank m) (keep m) (fixed-keep m);
        starts = λ t p. ap (λ (n : ℕ). (get_or (cleanSections m) n absent).lineStart) (sym (rank-low t p)) ∙ (ap (λ (s : SectionCode). s.lineStart) (at-rank t (fixed-lines t p)) ∙ h t p);
      }
