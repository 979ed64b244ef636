-- Numbers above j fall by one when what stands at j is taken out: which numbers they are afterwards, and what stands there. Assumes nothing.
use Rattle.std.specs.Prelude.{◌≡◌, refl, ◌⊎◌, Bool, true, false, List, [], ◌∷◌, ℕ, zero, suc, pred, ◌≤◌, ◌<◌, ltb, eqb, length, get_or}
use Rattle.std.proofs.Common.{sym, ap, ◌∙◌, inl, inr, le_of_suc-le-suc, not-suc-le-zero, arith, eqb-true, eq-eqb, ne_eqb, ltb-true, ltb-false, lt-ltb, le-ltb}
use Rattle.std.proofs.lemmas.Bool.{eqb-false}
use Rattle.rules.specs.Instr.{fall}
use Rattle.rules.specs.Combine.{without}

pub lt-or-le : (a b : ℕ) → (a < b) ⊎ (b ≤ a)
lt-or-le a b = go (ltb a b) refl
  where
    go : (x : Bool) → ltb a b ≡ x → (a < b) ⊎ (b ≤ a)
    go true e = inl (ltb-true a b e)
    go false e = inr (ltb-false a b e)

-- ---- where a number falls to

pub fall-low : (j t : ℕ) → t ≤ j → fall j t ≡ t
fall-low j t h = rw (le-ltb j t h)

pub fall-high : (j t : ℕ) → j < t → fall j t ≡ pred t
fall-high j t h = rw (lt-ltb j t h)

pub fall-below : (j t n : ℕ) → t < suc n → (t ≡ j → ⊥) → j < suc n → fall j t < n
fall-below j t n h ne k = go (lt-or-le j t)
  where
    go : (j < t) ⊎ (t ≤ j) → fall j t < n
    go (inl p) = rw (fall-high j t p) (omega arith)
    go (inr p) = rw (fall-low j t p) (omega (arith, ne))

pub fall-grows : (j t u : ℕ) → t ≤ u → fall j t ≤ fall j u
fall-grows j t u h = go (lt-or-le j t) (lt-or-le j u)
  where
    go : (j < t) ⊎ (t ≤ j) → (j < u) ⊎ (u ≤ j) → fall j t ≤ fall j u
    go (inl a) (inl b) = omega (arith, fall-high j t a, fall-high j u b)
    go (inl a) (inr b) = absurd (omega arith)
    go (inr a) (inl b) = omega (arith, fall-low j t a, fall-high j u b)
    go (inr a) (inr b) = omega (arith, fall-low j t a, fall-low j u b)

-- numbers that are not j are the same where they fall to the same
pub fall-same : (j t u : ℕ) → (t ≡ j → ⊥) → (u ≡ j → ⊥) → fall j t ≡ fall j u → t ≡ u
fall-same j t u p q e = go (lt-or-le j t) (lt-or-le j u)
  where
    go : (j < t) ⊎ (t ≤ j) → (j < u) ⊎ (u ≤ j) → t ≡ u
    go (inl a) (inl b) = omega (arith, sym (fall-high j t a) ∙ e ∙ fall-high j u b)
    go (inl a) (inr b) = absurd (q (omega (arith, sym (fall-high j t a) ∙ e ∙ fall-low j u b)))
    go (inr a) (inl b) = absurd (p (omega (arith, sym (fall-low j t a) ∙ e ∙ fall-high j u b)))
    go (inr a) (inr b) = sym (fall-low j t a) ∙ e ∙ fall-low j u b

pub fall-eqb : (j t u : ℕ) → (t ≡ j → ⊥) → (u ≡ j → ⊥) → eqb (fall j t) (fall j u) ≡ eqb t u
fall-eqb j t u p q = go (eqb t u) refl
  where
    go : (b : Bool) → eqb t u ≡ b → eqb (fall j t) (fall j u) ≡ b
    go true e = eq-eqb (fall j t) (fall j u) (ap (fall j) (eqb-true t u e))
    go false e = ne_eqb (fall j t) (fall j u) (λ z. eqb-false t u e (fall-same j t u p q z))

-- the number that fell to t
pub record Rises (j t : ℕ) : Type 0 where
  pub from : ℕ
  pub high : t ≤ from
  pub low : from ≤ suc t
  pub other : from ≡ j → ⊥
  pub falls : fall j from ≡ t

pub rises : (j t : ℕ) → Rises j t
rises j t = go (lt-or-le t j)
  where
    go : (t < j) ⊎ (j ≤ t) → Rises j t
    go (inl h) = record { from = t; high = omega arith; low = omega arith; other = λ e. omega arith; falls = fall-low j t (omega arith) }
    go (inr h) = record { from = suc t; high = omega arith; low = omega arith; other = λ e. omega arith; falls = fall-high j (suc t) (omega arith) }

-- ---- a list without what stood at j

module _ {A : Type 0} where
  without-low : (l : List A) (j t : ℕ) (d : A) → t < j → get_or (without l j) t d ≡ get_or l t d
  without-low [] j t d h = refl
  without-low (x ∷ l) zero t d h = absurd (not-suc-le-zero h)
  without-low (x ∷ l) (suc j) zero d h = refl
  without-low (x ∷ l) (suc j) (suc t) d h = without-low l j t d (le_of_suc-le-suc h)

  without-high : (l : List A) (j t : ℕ) (d : A) → j ≤ t → get_or (without l j) t d ≡ get_or l (suc t) d
  without-high [] j t d h = refl
  without-high (x ∷ l) zero t d h = refl
  without-high (x ∷ l) (suc j) zero d h = absurd (not-suc-le-zero h)
  without-high (x ∷ l) (suc j) (suc t) d h = without-high l j t d (le_of_suc-le-suc h)

  -- what stands at t, stands where t falls to
  pub without-fall : (l : List A) (j t : ℕ) (d : A) → (t ≡ j → ⊥) → get_or (without l j) (fall j t) d ≡ get_or l t d
  without-fall l j t d ne = go (lt-or-le j t)
    where
      high : (t : ℕ) → j < t → get_or (without l j) (pred t) d ≡ get_or l t d
      high zero h = absurd (not-suc-le-zero h)
      high (suc t) h = without-high l j t d (le_of_suc-le-suc h)

      go : (j < t) ⊎ (t ≤ j) → get_or (without l j) (fall j t) d ≡ get_or l t d
      go (inl h) = ap (λ n. get_or (without l j) n d) (fall-high j t h) ∙ high t h
      go (inr h) = ap (λ n. get_or (without l j) n d) (fall-low j t h) ∙ without-low l j t d (omega arith)

  pub length-without : (l : List A) (j : ℕ) → j < length l → suc (length (without l j)) ≡ length l
  length-without [] j h = absurd (not-suc-le-zero h)
  length-without (x ∷ l) zero h = refl
  length-without (x ∷ l) (suc j) h = ap suc (length-without l j (le_of_suc-le-suc h))
