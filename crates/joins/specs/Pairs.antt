-- A pair that may be joined, S1 and its successor S2, and the search for the lowest. Assumes nothing.
use Rattle.std.specs.Prelude.{◌≡◌, refl, ◌⊎◌, Bool, true, false, cond, not, ◌&&◌, List, ℕ, zero, suc, ◌+◌, ◌<◌, ◌≤◌, eqb, length, get_or}
use Rattle.std.proofs.Common.{sym, ap, ◌∙◌, inl, inr, not-suc-le-zero, arith, eqb-true, ne_eqb}
use Rattle.std.proofs.lemmas.Bool.{not-true}
use Rattle.std.proofs.Math.Option.{Option, none, some, none-ne-some}
use Rattle.std.proofs.lemmas.Bool.{eqb-false}
use Rattle.std.proofs.Math.ListN.{get_or-eq_default}
use Rattle.rules.specs.Machine.{SectionOrLine, unfixed, section, line, SectionCode, absent}
use Rattle.rules.specs.Combine.{refs, mayTake, mate, next, pairFrom, pair, combineFuel}
use Rattle.laws.specs.Lists.{both}
use Rattle.joins.specs.Numbers.{lt-or-le}

-- ---- a pair

pub record Pair (m : List SectionCode) (i j : ℕ) : Type 0 where
  pub succ : (get_or m i absent).success ≡ section j
  pub apart : i ≡ j → ⊥
  pub inner : (get_or m j absent).lineStart ≡ false
  pub once : refs j m ≡ 1

-- what section i may take in is the successor that it has
mate-is : (m : List SectionCode) (i j : ℕ) (x : SectionOrLine) → mate m i x ≡ some j → (x ≡ section j) × (mayTake m i j ≡ true)
mate-is m i j unfixed e = let z : ◌≡◌ {A = ℕ} 0 1 = cc in absurd (omega arith)
mate-is m i j (section u) e = go (mayTake m i u) refl e
  where
    go : (b : Bool) → mayTake m i u ≡ b → cond b (some u) none ≡ some j → (section u ≡ section j) × (mayTake m i j ≡ true)
    go true h k = let q : u ≡ j = cc in (ap section q, ap (mayTake m i) (sym q) ∙ h)
    go false h k = let z : ◌≡◌ {A = ℕ} 0 1 = cc in absurd (omega arith)
mate-is m i j (line r) e = let z : ◌≡◌ {A = ℕ} 0 1 = cc in absurd (omega arith)

-- a section that may take its successor in makes a pair with it
pair-of : (m : List SectionCode) (i j : ℕ) → (get_or m i absent).success ≡ section j → mayTake m i j ≡ true → Pair m i j
pair-of m i j e h =
    let p = both (not (eqb i j)) (not (get_or m j absent).lineStart && eqb (refs j m) 1) h in
    let q = both (not (get_or m j absent).lineStart) (eqb (refs j m) 1) p.1 in
    record {
      succ = e;
      apart = eqb-false i j (not-true (eqb i j) p.0);
      inner = not-true (get_or m j absent).lineStart q.0;
      once = eqb-true (refs j m) 1 q.1;
    }

pub to-pair : (m : List SectionCode) (i j : ℕ) → next m i ≡ some j → Pair m i j
to-pair m i j e = let t = mate-is m i j (get_or m i absent).success e in pair-of m i j t.0 t.1

-- and so does each pair
pub of-pair : (m : List SectionCode) (i j : ℕ) → Pair m i j → next m i ≡ some j
of-pair m i j p = rw (p.succ, ne_eqb i j p.apart, p.inner, p.once)

-- ---- the search

-- no section below i may take its successor in
abbrev pub Low : List SectionCode → ℕ → Type 0
Low m i = (t : ℕ) → t < i → next m t ≡ none

module _ (m : List SectionCode) where
  further : (i t : ℕ) → suc i + t ≡ i + suc t
  further i t = omega arith

  -- a pair that is found is one
  found-pair : (k i : ℕ) (p : ℕ × ℕ) → pairFrom m i k ≡ some p → Pair m p.0 p.1
  found-pair zero i p e = absurd (none-ne-some p e)
  found-pair (suc k) i p e = go (next m i) refl (found-pair k (suc i) p) e
    where
      go : (o : Option ℕ) → next m i ≡ o → (pairFrom m (suc i) k ≡ some p → Pair m p.0 p.1) → elim o [ none ↦ pairFrom m (suc i) k | some j ↦ some (i, j) ] ≡ some p → Pair m p.0 p.1
      go none q ih f = ih f
      go (some j) q ih f =
          let a : (i, j) ≡ p = cc in
          rw (← a) (to-pair m i j q)

  pub pair-found : (p : ℕ × ℕ) → pair m ≡ some p → Pair m p.0 p.1
  pair-found p e = found-pair (length m) 0 p e

  -- where none is found, none of the k sections from i on may take its successor in
  none-from : (k i : ℕ) → pairFrom m i k ≡ none → (t : ℕ) → t < k → next m (i + t) ≡ none
  none-from zero i e t h = absurd (not-suc-le-zero h)
  none-from (suc k) i e t h = go (next m i) refl (none-from k (suc i)) e t h
    where
      go : (o : Option ℕ) → next m i ≡ o → (pairFrom m (suc i) k ≡ none → (t : ℕ) → t < k → next m (suc i + t) ≡ none) → elim o as (λ z. Option (ℕ × ℕ)) [ none ↦ pairFrom m (suc i) k | some j ↦ some (i, j) ] ≡ none
          → (t : ℕ) → t < suc k → next m (i + t) ≡ none
      go none q ih f zero l = let z : i + 0 ≡ i = omega arith in rw z q
      go none q ih f (suc t) l = rw (← further i t) (ih f t (omega arith))
      go (some j) q ih f t l = absurd (none-ne-some (i, j) (sym f))

  -- and below one that is found, none may
  low-from : (k i : ℕ) (p : ℕ × ℕ) → pairFrom m i k ≡ some p → (t : ℕ) → t < k → i + t < p.0 → next m (i + t) ≡ none
  low-from zero i p e t h b = absurd (not-suc-le-zero h)
  low-from (suc k) i p e t h b = go (next m i) refl (low-from k (suc i) p) e t h b
    where
      go : (o : Option ℕ) → next m i ≡ o → (pairFrom m (suc i) k ≡ some p → (t : ℕ) → t < k → suc i + t < p.0 → next m (suc i + t) ≡ none) → elim o [ none ↦ pairFrom m (suc i) k | some j ↦ some (i, j) ] ≡ some p
          → (t : ℕ) → t < suc k → i + t < p.0 → next m (i + t) ≡ none
      go none q ih f zero l b = let z : i + 0 ≡ i = omega arith in rw z q
      go none q ih f (suc t) l b = rw (← further i t) (ih f t (omega arith) (omega arith))
      go (some j) q ih f t l b = let z : (i, j) ≡ p = cc in absurd (omega (arith, ap (λ (x : ℕ × ℕ). x.0) z))

  pub none-low : pair m ≡ none → Low m (length m)
  none-low e t h = let z : 0 + t ≡ t = omega arith in rw z at (none-from (length m) 0 e t h)

  pub found-low : (p : ℕ × ℕ) → pair m ≡ some p → Low m p.0
  found-low p e t h = go (lt-or-le t (length m))
    where
      go : (t < length m) ⊎ (length m ≤ t) → next m t ≡ none
      go (inl l) = let z : 0 + t ≡ t = omega arith in rw z at (low-from (length m) 0 p e t l (omega arith))
      go (inr l) = rw (get_or-eq_default m absent l) refl

  -- ---- what combining makes of it

  pub fuel-none : (k : ℕ) → pair m ≡ none → combineFuel k m ≡ m
  fuel-none zero e = refl
  fuel-none (suc k) e = rw (e, combineFuel)
