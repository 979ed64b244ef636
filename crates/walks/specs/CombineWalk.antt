-- Combining keeps the walk.
use Rattle.std.proofs.Math.Path.{◌≡◌, refl, sym, ap, subst}
use Rattle.std.proofs.Common.{◌∙◌, inl, mod-lt, arith, get_or-set_other}
use Rattle.std.specs.Prelude.{Bool, cond, length}
use Rattle.std.proofs.Math.Bool.{true, false}
use Rattle.std.proofs.Math.Option.{Option, none, some}
use mathlib.Core.List.{List, [], ◌∷◌, ◌++◌}
use Prim.Native.Nat.{ℕ, zero, suc, ◌+◌, ◌%◌, ◌≤◌, ◌<◌}
use Rattle.std.proofs.Math.ListN.{get_or}
use Rattle.std.proofs.Math.Seq.{get_or-set_same}
use Rattle.std.proofs.Math.Dec.{eqb}
use borrow.Author.Tests.{eqb-true, eqb-false}
use Rattle.rules.specs.Instr.{fall, Instruction, isJump, shown}
use Rattle.rules.specs.Machine.{SectionOrLine, unfixed, section, line, SectionCode, absent, isFixed}
use Rattle.rules.specs.Walk.{walkSections, Step, to, done, Leg, pre, State, run, follow, inside, through, enter, stepSection, across}
use Rattle.rules.specs.Clean.{ren}
use Rattle.rules.specs.Combine.{refsNext, refsCode, pair, hit, combineAt, combineFuel, combineSections}
use Rattle.walks.specs.Walks.{goes-step, Match, m-to, m-done, covers, Covers, Within, within-trans, covers-within, covers-back}
use Rattle.walks.specs.Renumber.{mapLeg, enter-ren, inside-append, inside-ext, Plays, plays-step, plays-then, Avoids}
use Rattle.laws.specs.Lists.{not-both}
use Rattle.joins.specs.Numbers.{fall-low}
use Rattle.joins.specs.References.{no-hit}
use Rattle.joins.specs.Pairs.{Pair, pair-found}
use Rattle.joins.specs.Joins.{Joint, first-in, second-in, code-first, refs-other, at-join}
use Rattle.joins.specs.Along.{Ready, fixed-at, behind-lines, join-ready}

-- ---- a section without a jump to j

module _ (j : ℕ) where
  across-avoids : (b : Bool) (i : Instruction) (t : ℕ) → cond b (hit t j) 0 ≡ 0 → (K : List ℕ → Leg State) → ((os : List ℕ) → Avoids j (K os).1) → (os : List ℕ) → Avoids j (across b i t K os).1
  across-avoids false i t h K hK os = hK os
  across-avoids true i t h K hK [] = tt
  across-avoids true i t h K hK (zero ∷ os) = hK os
  across-avoids true i t h K hK (suc o ∷ os) = no-hit t j h

  inside-avoids : (c : List Instruction) → refsCode j c ≡ 0 → (K : List ℕ → Leg State) → ((os : List ℕ) → Avoids j (K os).1) → (os : List ℕ) → Avoids j (inside c K os).1
  inside-avoids [] h K hK os = hK os
  inside-avoids (i ∷ c) h K hK os = across-avoids (isJump i) (shown i) i.fst (omega arith) (inside c K) (λ z. inside-avoids c (omega arith) K hK z) os

  module _ (L : ℕ) (pos : 0 < L) (L≤j : L ≤ j) where
    follow-avoids : (x : SectionOrLine) → refsNext j x ≡ 0 → (os : List ℕ) → Avoids j (follow L x os).1
    follow-avoids unfixed h os = tt
    follow-avoids (section t) h os = no-hit t j h
    follow-avoids (line r) h [] = tt
    follow-avoids (line r) h (o ∷ os) = λ e. omega (arith, mod-lt o pos)

    through-avoids : (c : List Instruction) (x : SectionOrLine) → refsNext j x + refsCode j c ≡ 0 → (os : List ℕ) → Avoids j (through L c x os).1
    through-avoids c unfixed h os = tt
    through-avoids c (section t) h os = inside-avoids c (omega arith) (follow L (section t)) (follow-avoids (section t) (omega arith)) os
    through-avoids c (line r) h os = inside-avoids c (omega arith) (follow L (line r)) (follow-avoids (line r) (omega arith)) os

  -- The code c with K behind it (Y), beside the code c with section j behind it (X): alike, or c is passed.
  data Beside (K : List ℕ → Leg State) (X Y : Leg State) : Type 0 where
    alike : X ≡ Y → Avoids j Y.1 → Beside K X Y
    passed : (l : List Instruction) (os : List ℕ) → X ≡ (l, to (j, os)) → Y ≡ pre l (K os) → Beside K X Y

  beside-pre : (i : Instruction) (K : List ℕ → Leg State) (X Y : Leg State) → Beside K X Y → Beside K (pre (i ∷ []) X) (pre (i ∷ []) Y)
  beside-pre i K X Y (alike e h) = alike (ap (pre (i ∷ [])) e) h
  beside-pre i K X Y (passed l os e h) = passed (i ∷ l) os (ap (pre (i ∷ [])) e) (ap (pre (i ∷ [])) h)

  across-beside : (b : Bool) (i : Instruction) (t : ℕ) → cond b (hit t j) 0 ≡ 0 → (K X Y : List ℕ → Leg State) → ((os : List ℕ) → Beside K (X os) (Y os)) → (os : List ℕ)
      → Beside K (across b i t X os) (across b i t Y os)
  across-beside false i t h K X Y g os = beside-pre i K (X os) (Y os) (g os)
  across-beside true i t h K X Y g [] = alike refl tt
  across-beside true i t h K X Y g (zero ∷ os) = beside-pre i K (X os) (Y os) (g os)
  across-beside true i t h K X Y g (suc o ∷ os) = alike refl (no-hit t j h)

  beside : (L : ℕ) (c : List Instruction) → refsCode j c ≡ 0 → (K : List ℕ → Leg State) (os : List ℕ) → Beside K (inside c (follow L (section j)) os) (inside c K os)
  beside L [] h K os = passed [] os refl refl
  beside L (i ∷ c) h K os =
      across-beside (isJump i) (shown i) i.fst (omega arith) K (inside c (follow L (section j))) (inside c K) (λ z. beside L c (omega arith) K z) os

-- ---- one combining

module _ (L : ℕ) (pos : 0 < L) (m : List SectionCode) (ready : Ready L m) (i j : ℕ) (pr : Pair m i j) where
  L≤j : L ≤ j
  L≤j = behind-lines L m ready i j pr

  abbrev J : SectionCode
  J = Joint m i j pr

  stay : (o : ℕ) → fall j (o % L) ≡ o % L
  stay o = fall-low j (o % L) (omega (arith, mod-lt o pos, L≤j))

  R : State → State → Type 0
  R a b = (b.0 ≡ j → ⊥) × (a ≡ (fall j b.0, b.1))

  sa : State → Leg State
  sa = stepSection (combineAt m i j) L

  sb : State → Leg State
  sb = stepSection m L

  match : (a b : State) (l : List Instruction) (r : Step State) → sa a ≡ mapLeg (fall j) (l, r) → Plays sb b l r → Avoids j r → Match sa sb R a b
  unfolding R
  match a b l (to s) e p h = m-to e p (h, refl)
  match a b l (done f) e p h = m-done e p

  -- A section that is not i.
  sim-other : (t : ℕ) (os : List ℕ) → (t ≡ j → ⊥) → (t ≡ i → ⊥) → Match sa sb R (fall j t, os) (t, os)
  unfolding sa sb
  sim-other t os ne ni =
      let s = get_or m t absent in
      let x = enter L s os in
      match
      (fall j t, os)
      (t, os)
      x.0
      x.1
      (ap (λ (z : SectionCode). enter L z os) (at-join m i j pr t ne ∙ ap (ren (fall j)) (get_or-set_other m i t J absent ni)) ∙ enter-ren (fall j) L stay s os)
      (plays-step sb (t, os) x refl)
      (through-avoids j L pos L≤j s.instrs s.success (refs-other m i j pr t ni) os)

  through-fixed : (c : List Instruction) (x : SectionOrLine) (os : List ℕ) → isFixed x ≡ true → through L c x os ≡ inside c (follow L x) os
  through-fixed c unfixed os h = absurd (not-both false h refl)
  through-fixed c (section t) os h = refl
  through-fixed c (line r) os h = refl

  ci : List Instruction
  ci = (get_or m i absent).instrs

  K : List ℕ → Leg State
  K os = enter L (get_or m j absent) os

  fixed-j : isFixed (get_or m j absent).success ≡ true
  fixed-j = fixed-at m ready.fixed j (second-in m i j pr)

  a-at-i : (os : List ℕ) → sa (fall j i, os) ≡ mapLeg (fall j) (inside ci K os)
  unfolding sa ci K
  a-at-i os =
      let sj = get_or m j absent in
      ap (λ (z : SectionCode). enter L z os) (at-join m i j pr i pr.apart ∙ ap (ren (fall j)) (get_or-set_same m i J absent (first-in m i j pr)))
      ∙ (enter-ren (fall j) L stay J os
      ∙ ap (mapLeg (fall j)) (through-fixed (ci ++ sj.instrs) sj.success os fixed-j
      ∙ (inside-append ci sj.instrs (follow L sj.success) os
      ∙ inside-ext ci (inside sj.instrs (follow L sj.success)) K (λ z. sym (through-fixed sj.instrs sj.success z fixed-j)) os)))

  b-at-i : (os : List ℕ) → sb (i, os) ≡ inside ci (follow L (section j)) os
  unfolding sb ci
  b-at-i os = ap (λ (x : SectionOrLine). through L (get_or m i absent).instrs x os) pr.succ

  sim-i : (os : List ℕ) → Match sa sb R (fall j i, os) (i, os)
  unfolding sb K ci
  sim-i os = go (beside j L ci (code-first m i j pr) K os)
    where
      go : Beside j K (inside ci (follow L (section j)) os) (inside ci K os) → Match sa sb R (fall j i, os) (i, os)
      go (alike e h) =
          let y = inside ci K os in
          match (fall j i, os) (i, os) y.0 y.1 (a-at-i os) (plays-step sb (i, os) y (b-at-i os ∙ e)) h
      go (passed l os' e h) =
          let y = K os' in
          match
          (fall j i, os)
          (i, os)
          (l ++ y.0)
          y.1
          (a-at-i os ∙ ap (mapLeg (fall j)) h)
          (plays-then sb (i, os) (j, os') l (goes-step (b-at-i os ∙ e)) y.0 y.1 (plays-step sb (j, os') y refl))
          (through-avoids j L pos L≤j (get_or m j absent).instrs (get_or m j absent).success (refs-other m i j pr j (λ p. pr.apart (sym p))) os')

  sim : (a b : State) → R a b → Match sa sb R a b
  unfolding R
  sim a b (ne, e) = subst (λ (z : State). Match sa sb R z b) (sym e) (go (eqb b.0 i) refl)
    where
      go : (x : Bool) → eqb b.0 i ≡ x → Match sa sb R (fall j b.0, b.1) b
      go true q = subst (λ (t : ℕ). Match sa sb R (fall j t, b.1) (t, b.1)) (sym (eqb-true b.0 i q)) (sim-i b.1)
      go false q = sim-other b.0 b.1 ne (eqb-false b.0 i q)

  0≢j : 0 ≡ j → ⊥
  0≢j e = omega (arith, L≤j)

  combine-covers : (os : List ℕ) → Covers (λ k. run (stepSection (combineAt m i j) L) k (0, os)) (λ k. run (stepSection m L) k (0, os))
  unfolding sa sb R
  combine-covers os k = covers sa sb R sim k (0, os) (0, os) (0≢j, ap (λ (n : ℕ). (n, os)) (sym (fall-low j 0 (omega arith))))

-- ---- combining until no pair is left

pub record Kept (L : ℕ) (m n : List SectionCode) : Type 0 where
  pub ready : Ready L n
  pub there : (os : List ℕ) → Within (walkSections m L os) (walkSections n L os)
  pub back : (os : List ℕ) → Within (walkSections n L os) (walkSections m L os)

module _ (L : ℕ) (pos : 0 < L) where
  -- A join preserves every walk of a machine that is ready, which it stays.
  pub join-keeps : (m : List SectionCode) → Ready L m → (i j : ℕ) → Pair m i j → Kept L m (combineAt m i j)
  join-keeps m r i j pr =
      let n = combineAt m i j in
      let c = combine-covers L pos m r i j pr in
      record {
        ready = join-ready L m r i j pr;
        there = λ os. covers-back (stepSection m L) (0, os) (walkSections n L os) (c os);
        back = λ os. covers-within (walkSections n L os) (walkSections m L os) (c os);
      }

  pub kept-trans : (l m n : List SectionCode) → Kept L l m → Kept L m n → Kept L l n
  kept-trans l m n p q =
      record {
        ready = q.ready;
        there = λ os. within-trans (walkSections l L os) (walkSections m L os) (walkSections n L os) (p.there os) (q.there os);
        back = λ os. within-trans (walkSections n L os) (walkSections m L os) (walkSections l L os) (q.back os) (p.back os);
      }

  pub kept-self : (m : List SectionCode) → Ready L m → Kept L m m
  kept-self m r = record { ready = r; there = λ os k. (k, inl refl); back = λ os k. (k, inl refl) }

  kept-fuel : (k : ℕ) (m : List SectionCode) → Ready L m → Kept L m (combineFuel k m)
  kept-fuel zero m r = kept-self m r
  kept-fuel (suc k) m r = go (pair m) refl (λ n q. kept-fuel k n q)
    where
      go : (o : Option (ℕ × ℕ)) → pair m ≡ o → ((n : List SectionCode) → Ready L n → Kept L n (combineFuel k n)) → Kept L m (combineFuel (suc k) m)
      go none e ih = rw (e, combineFuel) (kept-self m r)
      go (some p) e ih =
          let n = combineAt m p.0 p.1 in
          let z = join-keeps m r p.0 p.1 (pair-found m p e) in
          rw (e, combineFuel) (kept-trans m n (combineFuel k n) z (ih n z.ready))

  -- Combining keeps the walk of every machine that is ready.
  pub combine-keeps : (m : List SectionCode) → Ready L m → Kept L m (combineSections m)
  unfolding combineSections
  combine-keeps m r = kept-fuel (length m) m r
