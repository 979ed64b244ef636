-- Cleaning keeps the walk of a machine that never comes to an unfixed section.
use Rattle.std.specs.Prelude.{◌≡◌, List, ℕ, zero, suc, ◌%◌, ◌<◌, get_or}
use Rattle.std.proofs.Math.Path.{refl, ap}
use Rattle.std.proofs.Common.{sym, ◌∙◌, mod-lt}
use Rattle.machines.specs.Ranks.{IsFixedAt, rank-low, at-rank}
use Rattle.rules.specs.Instr.{Instruction}
use Rattle.rules.specs.Machine.{SectionOrLine, unfixed, section, line, SectionCode, absent}
use Rattle.rules.specs.Walk.{lost, Step, to, done, over, Leg, pre, onto, run, State, enter, stepSection, walkSections}
use Rattle.rules.specs.Clean.{rank, cleanSections}
use Rattle.walks.specs.Claim.{Safe}
use Rattle.walks.specs.Renumber.{mapRes, mapLeg, enter-ren}

module _ (L : ℕ) (pos : 0 < L) (m : List SectionCode) (fixed-lines : (t : ℕ) → t < L → IsFixedAt m t) where
  step-clean : (t : ℕ) (os : List ℕ) → IsFixedAt m t → stepSection (cleanSections m) L (rank m t, os) ≡ mapLeg (rank m) (stepSection m L (t, os))
  step-clean t os h = ap (λ (s : SectionCode). enter L s os) (at-rank L pos m fixed-lines t h) ∙ enter-ren (rank m) L (λ o. rank-low L pos m fixed-lines (o % L) (mod-lt o pos)) (get_or m t absent) os

  SafeAt : State → Type 0
  SafeAt s = (k : ℕ) → (run (stepSection m L) k s).1 ≡ over lost → ⊥

  safe-fixed : (t : ℕ) (os : List ℕ) → SafeAt (t, os) → IsFixedAt m t
  unfolding SafeAt
  safe-fixed t os safe = go (get_or m t absent).success refl
    where
      go : (x : SectionOrLine) → (get_or m t absent).success ≡ x → IsFixedAt m t
      go unfixed e = absurd (safe 1 (rw e))
      go (section u) e = rw e
      go (line r) e = rw e

  safe-next : (s s' : State) (l : List Instruction) → stepSection m L s ≡ (l, to s') → SafeAt s → SafeAt s'
  unfolding SafeAt
  safe-next s s' l e safe k q = safe (suc k) (ap (λ (x : Leg State). (onto (λ z. run (stepSection m L) k z) x.0 x.1).1) e ∙ q)

  clean-run : (k : ℕ) (s : State) → SafeAt s → run (stepSection (cleanSections m) L) k (rank m s.0, s.1) ≡ run (stepSection m L) k s
  clean-run zero s safe = refl
  clean-run (suc k) s safe =
      ap (λ (x : Leg State). onto (λ z. run (stepSection (cleanSections m) L) k z) x.0 x.1) (step-clean s.0 s.1 (safe-fixed s.0 s.1 safe))
      ∙ go (stepSection m L s).1 refl (λ z q. clean-run k z q)
    where
      l : List Instruction
      l = (stepSection m L s).0

      go : (r : Step State) → (stepSection m L s).1 ≡ r → ((z : State) → SafeAt z → run (stepSection (cleanSections m) L) k (rank m z.0, z.1) ≡ run (stepSection m L) k z)
          → onto (λ z. run (stepSection (cleanSections m) L) k z) l (mapRes (rank m) (stepSection m L s).1) ≡ onto (λ z. run (stepSection m L) k z) l (stepSection m L s).1
      go (to z) e ih = rw e (ap (pre l) (ih z (safe-next s z l (ap (λ (r : Step State). (l, r)) e) safe)))
      go (done f) e ih = rw e

  -- Cleaning keeps the walk of a machine whose walk is safe and whose first L sections are fixed line starts.
  pub clean-same : (os : List ℕ) → Safe (walkSections m L os) → (k : ℕ) → walkSections (cleanSections m) L os k ≡ walkSections m L os k
  unfolding SafeAt
  clean-same os safe k = ap (λ (n : ℕ). run (stepSection (cleanSections m) L) k (n, os)) (sym (rank-low L pos m fixed-lines 0 pos)) ∙ clean-run k (0, os) safe
