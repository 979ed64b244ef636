-- Links followed step by step. After n links among n numbers either they have ended, or a number came twice; where different numbers have different
-- links, that is the one that they began with. Assumes nothing.
use Rattle.std.specs.Prelude.{◌≡◌, refl, ◌⊎◌, ℕ, zero, suc, ◌+◌, ◌≤◌, ◌<◌}
use Rattle.std.proofs.Common.{sym, ap, ◌∙◌, inl, inr, not-suc-le-zero, arith}
use Rattle.std.proofs.Math.Option.{Option, none, some, none-ne-some}
use Rattle.std.proofs.lemmas.Bool.{cases_eq}
use Rattle.rules.specs.Instr.{fall}
use Rattle.rules.specs.Walk.{inside}
use Rattle.joins.specs.Numbers.{fall-below, fall-same}
use Rattle.gather.proofs.Contract.{Ends}

-- ---- a number that comes twice

-- is c among what g makes of the numbers below k?
find : (g : ℕ → ℕ) (c k : ℕ) → ((a : ℕ) × (a < k) × (g a ≡ c)) ⊎ ((a : ℕ) → a < k → g a ≡ c → ⊥)
find g c zero = inr (λ a h e. not-suc-le-zero h)
find g c (suc k) = go (find g c k) (cases_eq (g k) c)
  where
    go : ((a : ℕ) × (a < k) × (g a ≡ c)) ⊎ ((a : ℕ) → a < k → g a ≡ c → ⊥) → (g k ≡ c) ⊎ (g k ≡ c → ⊥) → ((a : ℕ) × (a < suc k) × (g a ≡ c)) ⊎ ((a : ℕ) → a < suc k → g a ≡ c → ⊥)
    go (inl x) y = inl (x.0, (let h = x.1 in omega arith), x.2)
    go (inr x) (inl y) = inl (k, omega arith, y)
    go (inr x) (inr y) = inr not-there
      where
        not-there : (a : ℕ) → a < suc k → g a ≡ c → ⊥
        not-there a h e = at (cases_eq a k)
          where
            at : (a ≡ k) ⊎ (a ≡ k → ⊥) → ⊥
            at (inl p) = y (ap g (sym p) ∙ e)
            at (inr p) = x a (omega (arith, p)) e

record Twice (n : ℕ) (g : ℕ → ℕ) : Type 0 where
  early : ℕ
  late : ℕ
  before : early < late
  within : late ≤ n
  same : g early ≡ g late

-- n + 1 numbers below n
pigeons : (n : ℕ) (g : ℕ → ℕ) → ((a : ℕ) → a ≤ n → g a < n) → Twice n g
pigeons zero g h = absurd (not-suc-le-zero (h 0 (omega arith)))
pigeons (suc n) g h = go (find g (g (suc n)) (suc n)) (λ f k. pigeons n f k)
  where
    c : ℕ
    c = g (suc n)

    go : ((a : ℕ) × (a < suc n) × (g a ≡ g (suc n))) ⊎ ((a : ℕ) → a < suc n → g a ≡ g (suc n) → ⊥) → ((f : ℕ → ℕ) → ((a : ℕ) → a ≤ n → f a < n) → Twice n f) → Twice (suc n) g
    go (inl x) ih = record { early = x.0; late = suc n; before = x.1; within = omega arith; same = x.2 }
    go (inr x) ih =
        let t = ih (λ a. fall (g (suc n)) (g a)) (λ a p. fall-below (g (suc n)) (g a) n (h a (omega arith)) (x a (omega arith)) (h (suc n) (omega arith))) in
        let b = t.before in
        let w = t.within in
        record { early = t.early; late = t.late; before = b; within = omega arith; same = fall-same (g (suc n)) (g t.early) (g t.late) (x t.early (omega arith)) (x t.late (omega arith)) t.same }

-- ---- k links

abbrev pub onward : (ℕ → Option ℕ) → Option ℕ → Option ℕ
onward l none = none
onward l (some v) = l v

abbrev pub steps : (ℕ → Option ℕ) → ℕ → ℕ → Option ℕ
steps l zero u = some u
steps l (suc k) u = onward l (steps l k u)

abbrev value : Option ℕ → ℕ
value none = 0
value (some v) = v

module _ (l : ℕ → Option ℕ) where
  -- the first link first
  pub front : (k u v : ℕ) → l u ≡ some v → steps l (suc k) u ≡ steps l k v
  front zero u v e = e
  front (suc k) u v e = ap (onward l) (front k u v e)

  pub front-none : (k u : ℕ) → l u ≡ none → steps l (suc k) u ≡ none
  front-none zero u e = e
  front-none (suc k) u e = ap (onward l) (front-none k u e)

  -- the last link
  pub last : (k u w : ℕ) → steps l (suc k) u ≡ some w → (x : ℕ) × (steps l k u ≡ some x) × (l x ≡ some w)
  last k u w e = go (steps l k u) refl e
    where
      go : (o : Option ℕ) → steps l k u ≡ o → onward l o ≡ some w → (x : ℕ) × (steps l k u ≡ some x) × (l x ≡ some w)
      go none p q = absurd (none-ne-some w q)
      go (some x) p q = (x, p, q)

  -- where b links are gone, each less is
  fewer : (a b u w : ℕ) → a ≤ b → steps l b u ≡ some w → (x : ℕ) × (steps l a u ≡ some x)
  fewer a zero u w h e = (w, ap (λ (k : ℕ). steps l k u) (let z : a ≡ 0 = omega arith in z) ∙ e)
  fewer a (suc b) u w h e = go (cases_eq a (suc b)) (λ p. fewer a b u (last b u w e).0 p (last b u w e).1)
    where
      go : (a ≡ suc b) ⊎ (a ≡ suc b → ⊥) → (a ≤ b → (x : ℕ) × (steps l a u ≡ some x)) → (x : ℕ) × (steps l a u ≡ some x)
      go (inl p) ih = (w, ap (λ (k : ℕ). steps l k u) p ∙ e)
      go (inr p) ih = ih (omega (arith, p))

  -- links after links
  pub after : (d a b u w : ℕ) → b ≡ d + a → steps l a u ≡ some w → steps l b u ≡ steps l d w
  after zero a b u w p e = ap (λ (k : ℕ). steps l k u) (let z : b ≡ a = omega arith in z) ∙ e
  after (suc d) a zero u w p e = absurd (omega arith)
  after (suc d) a (suc b) u w p e = ap (onward l) (after d a b u w (omega arith) e)

  -- ended
  pub to-ends : (k u : ℕ) → steps l (suc k) u ≡ none → Ends l k u
  to-ends zero u e = e
  to-ends (suc k) u e = λ v p. to-ends k v (sym (front (suc k) u v p) ∙ e)

  pub record Round (n u : ℕ) : Type 0 where
    pub early : ℕ
    pub late : ℕ
    pub at : ℕ
    pub before : early < late
    pub within : late ≤ n
    pub first : steps l early u ≡ some at
    pub second : steps l late u ≡ some at

  -- n links among n numbers
  pub ended-or : (n : ℕ) → ((u v : ℕ) → l u ≡ some v → u < n) → (u : ℕ) → (steps l (suc n) u ≡ none) ⊎ Round n u
  ended-or n inside u = go (steps l (suc n) u) refl
    where
      go : (o : Option ℕ) → steps l (suc n) u ≡ o → (steps l (suc n) u ≡ none) ⊎ Round n u
      go none e = inl e
      go (some w) e = inr (record { early = t.early; late = t.late; at = g t.early; before = t.before; within = t.within; first = is t.early (let b = t.before in let c = t.within in omega arith); second = is t.late t.within ∙ ap some (sym t.same) })
        where
          g : ℕ → ℕ
          g a = value (steps l a u)

          is : (a : ℕ) → a ≤ n → steps l a u ≡ some (g a)
          is a h = let x = fewer a (suc n) u w (omega arith) e in x.1 ∙ ap some (sym (ap value x.1))

          small : (a : ℕ) → a ≤ n → g a < n
          small a h =
              let x = fewer (suc a) (suc n) u w (omega arith) e in
              let y = last a u x.0 x.1 in
              let z : g a ≡ y.0 = let q : some (g a) ≡ some y.0 = sym (is a h) ∙ y.1 in cc in
              let s = inside y.0 x.0 y.2 in
              omega arith

          t : Twice n g
          t = pigeons n g small

  -- where different numbers have different links, u itself comes again
  pub again : (n u : ℕ) → ((a b v : ℕ) → l a ≡ some v → l b ≡ some v → a ≡ b) → Round n u → (p : ℕ) × (0 < p) × (p ≤ n) × (steps l p u ≡ some u)
  again n u inj r = go r.early r.late r.at r.before r.within r.first r.second
    where
      go : (a b w : ℕ) → a < b → b ≤ n → steps l a u ≡ some w → steps l b u ≡ some w → (p : ℕ) × (0 < p) × (p ≤ n) × (steps l p u ≡ some u)
      go zero b w h k e q = (b, h, k, q ∙ sym e)
      go (suc a) zero w h k e q = absurd (not-suc-le-zero h)
      go (suc a) (suc b) w h k e q =
          let x = last a u w e in
          let y = last b u w q in
          go a b x.0 (omega arith) (omega arith) x.1 (y.1 ∙ ap some (inj y.0 x.0 w y.2 x.2))
