-- A join of i with j, which i may take in: what stands where afterwards, and which section each may then take in. Assumes no more than that.
use Rattle.std.specs.Prelude.{◌≡◌, refl, ◌⊎◌, Bool, true, false, cond, List, ℕ, ◌<◌, length, get_or}
use Rattle.std.proofs.Common.{sym, ap, ◌∙◌, inl, inr, arith, eq-eqb, ne_eqb}
use Rattle.std.proofs.Math.Option.{none, some, map as mapped}
use Rattle.std.proofs.Math.Seq.{get_or-set_same, get_or-set_other}
use Rattle.std.proofs.lemmas.Bool.{cases_eq}
use Rattle.rules.specs.Clean.{ren}
use Rattle.rules.specs.Combine.{refsNext, mayTake, mate, next, joined, combineAt}
use Rattle.rules.specs.Instr.{fall}
use Rattle.rules.specs.Machine.{SectionOrLine, SectionCode, absent, unfixed, section, line}
use Rattle.joins.specs.Joins.{first-in, refs-other, Joint, at-join, mate-join}
use Rattle.joins.specs.Pairs.{Pair, to-pair}
use Rattle.joins.specs.References.{hit-self}

module _ (m : List SectionCode) where
  -- a section that may take one in is there
  pub next-in : (u v : ℕ) → next m u ≡ some v → u < length m
  next-in u v e = first-in m u v (to-pair m u v e)

  -- what a section may take in is the successor of no other one
  pub next-alone : (x u v : ℕ) → next m x ≡ some v → (get_or m u absent).success ≡ section v → u ≡ x
  next-alone x u v e q = go (cases_eq u x)
    where
      go : (u ≡ x) ⊎ (u ≡ x → ⊥) → u ≡ x
      go (inl p) = p
      go (inr p) = absurd (omega (arith, refs-other m x v (to-pair m x v e) u p, ap (refsNext v) q, hit-self v))

  -- so one section only may take it in
  pub next-only : (a b v : ℕ) → next m a ≡ some v → next m b ≡ some v → a ≡ b
  next-only a b v p q = next-alone b a v q (to-pair m a v p).succ

module _ (m : List SectionCode) (i j : ℕ) (e : next m i ≡ some j) where
  abbrev P : Pair m i j
  P = to-pair m i j e

  pub at-other : (t : ℕ) → (t ≡ j → ⊥) → (t ≡ i → ⊥) → get_or (combineAt m i j) (fall j t) absent ≡ ren (fall j) (get_or m t absent)
  at-other t p q = at-join m i j P t p ∙ ap (ren (fall j)) (get_or-set_other m i t (Joint m i j P) absent q)

  pub at-first : get_or (combineAt m i j) (fall j i) absent ≡ ren (fall j) (joined (get_or m i absent) (get_or m j absent))
  at-first = at-join m i j P i P.apart ∙ ap (ren (fall j)) (get_or-set_same m i (Joint m i j P) absent (first-in m i j P))

  -- no section but i goes on to j
  next-other : (t v : ℕ) → (t ≡ i → ⊥) → (get_or m t absent).success ≡ section v → v ≡ j → ⊥
  next-other t v q x z = q (next-alone m i t j e (x ∙ ap section z))

  next-second : (v : ℕ) → (get_or m j absent).success ≡ section v → v ≡ j → ⊥
  next-second v x = next-other j v (λ z. P.apart (sym z)) x

  -- what each other section may take in,
  pub next-stays : (t : ℕ) → (t ≡ j → ⊥) → (t ≡ i → ⊥) → next (combineAt m i j) (fall j t) ≡ mapped (fall j) (next m t)
  next-stays t p q = ap (λ (s : SectionCode). mate (combineAt m i j) (fall j t) s.success) (at-other t p q) ∙ mate-join m i j P t (get_or m t absent).success p (λ v x. next-other t v q x)

  -- and i: what j might, unless that was i itself
  joint : next (combineAt m i j) (fall j i) ≡ mapped (fall j) (mate m i (get_or m j absent).success)
  joint = ap (λ (s : SectionCode). mate (combineAt m i j) (fall j i) s.success) at-first ∙ mate-join m i j P i (get_or m j absent).success P.apart (λ v x. next-second v x)

  pub next-joint : (next m j ≡ some i → ⊥) → next (combineAt m i j) (fall j i) ≡ mapped (fall j) (next m j)
  next-joint h = joint ∙ ap (mapped (fall j)) (go (get_or m j absent).success refl h)
    where
      go : (x : SectionOrLine) → (get_or m j absent).success ≡ x → (mate m j x ≡ some i → ⊥) → mate m i x ≡ mate m j x
      go unfixed q g = refl
      go (section v) q g = at (cases_eq i v)
        where
          away : (mayTake m j v ≡ true → ⊥) → (b : Bool) → mayTake m j v ≡ b → none ≡ cond b (some v) none
          away z true y = absurd (z y)
          away z false y = refl

          at : (i ≡ v) ⊎ (i ≡ v → ⊥) → mate m i (section v) ≡ mate m j (section v)
          at (inl z) = rw (eq-eqb i v z) (away (λ y. g (rw y (ap some (sym z)))) (mayTake m j v) refl)
          at (inr z) = rw (ne_eqb i v z, ne_eqb j v (λ y. next-second v q (sym y)))
      go (line r) q g = refl

  pub next-round : next m j ≡ some i → next (combineAt m i j) (fall j i) ≡ none
  next-round h = joint ∙ (ap (λ (x : SectionOrLine). mapped (fall j) (mate m i x)) (to-pair m j i h).succ ∙ rw (eq-eqb i i refl))
