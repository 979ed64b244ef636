-- Rings: `lowest` says that a way leads round, and that nothing on it is lower (Way). Links have no ring, so they end. Assumes nothing.
use Rattle.std.specs.Prelude.{◌≡◌, refl, ◌⊎◌, Bool, true, false, cond, ◌&&◌, ◌||◌, List, ℕ, zero, suc, ◌-◌, ◌≤◌, ◌<◌, ltb, eqb, length}
use Rattle.std.proofs.Common.{sym, ap, subst, ◌∙◌, inl, inr, not-suc-le-zero, arith, eqb-true, eq-eqb, ne_eqb, ltb-true, lt-ltb}
use Rattle.std.proofs.Math.Option.{Option, none, some, none-ne-some}
use Rattle.std.proofs.lemmas.Bool.{cases_eq}
use Rattle.rules.specs.Combine.{next}
use Rattle.rules.specs.Machine.{SectionCode}
use Rattle.laws.specs.Lists.{not-both}
use Rattle.joins.specs.Numbers.{lt-or-le}
use Rattle.gather.proofs.Contract.{Ends}
use Rattle.gather.specs.Gather.{returns, lowest, cut, link}
use Rattle.gather.proofs.Join.{next-in, next-only}
use Rattle.gather.proofs.Steps.{onward, steps, front, front-none, last, after, to-ends, Round, ended-or, again}

-- ---- ways

-- from u to w by `next`, one step or more, in between only through sections above t
pub data Way (m : List SectionCode) (t : ℕ) : ℕ → ℕ → Type 0 where
  one : {u w : ℕ} → next m u ≡ some w → Way m t u w
  more : {u v w : ℕ} → next m u ≡ some v → t < v → Way m t v w → Way m t u w

module _ (m : List SectionCode) where
  pub way-then : (t u v w : ℕ) → Way m t u v → t < v → Way m t v w → Way m t u w
  way-then t u v w (one e) h y = more e h y
  way-then t u v w (more {v = x} e k r) h y = more e k (way-then t x v w r h y)

  pub way-lower : (t t' u w : ℕ) → t' ≤ t → Way m t u w → Way m t' u w
  way-lower t t' u w h (one e) = one e
  way-lower t t' u w h (more {v = x} e k r) = more e (omega arith) (way-lower t t' x w h r)

  -- ---- the test

  returns-one : (t k u : ℕ) → next m u ≡ some t → returns m t (suc k) u ≡ true
  returns-one t k u e = rw (e, returns, eq-eqb t t refl)

  returns-more : (t k u v : ℕ) → next m u ≡ some v → t < v → returns m t k v ≡ true → returns m t (suc k) u ≡ true
  returns-more t k u v e h r = rw (e, returns, ne_eqb v t (λ z. omega arith), lt-ltb t v h) r

  -- what it says
  record Onward (t k u : ℕ) : Type 0 where
    to : ℕ
    step : next m u ≡ some to
    then : (to ≡ t) ⊎ ((t < to) × (returns m t k to ≡ true))

  returns-is : (t k u : ℕ) → returns m t (suc k) u ≡ true → Onward t k u
  returns-is t k u e = go (next m u) refl e
    where
      go : (o : Option ℕ) → next m u ≡ o → elim o as (λ z. Bool) [ none ↦ false | some v ↦ eqb v t || (ltb t v && returns m t k v) ] ≡ true → Onward t k u
      go none p q = absurd (not-both false q refl)
      go (some v) p q = at (eqb v t) refl q
        where
          above : (b : Bool) → ltb t v ≡ b → (b && returns m t k v) ≡ true → Onward t k u
          above true x y = record { to = v; step = p; then = inr (ltb-true t v x, y) }
          above false x y = absurd (not-both false y refl)

          at : (b : Bool) → eqb v t ≡ b → (b || (ltb t v && returns m t k v)) ≡ true → Onward t k u
          at true x y = record { to = v; step = p; then = inl (eqb-true v t x) }
          at false x y = above (ltb t v) refl y

  to-way : (t k u : ℕ) → returns m t k u ≡ true → Way m t u t
  to-way t zero u e = absurd (not-both false e refl)
  to-way t (suc k) u e = let o = returns-is t k u e in go o.to o.step o.then (λ v q. to-way t k v q)
    where
      go : (v : ℕ) → next m u ≡ some v → (v ≡ t) ⊎ ((t < v) × (returns m t k v ≡ true)) → ((v : ℕ) → returns m t k v ≡ true → Way m t v t) → Way m t u t
      go v p (inl q) ih = one (p ∙ ap some q)
      go v p (inr q) ih = more p q.0 (ih v q.1)

  of-way : (t u w : ℕ) → Way m t u w → w ≡ t → (k : ℕ) × (returns m t k u ≡ true)
  of-way t u w (one e) q = (1, returns-one t 0 u (e ∙ ap some q))
  of-way t u w (more {v = v} e h r) q = let (k, z) = of-way t v w r q in (suc k, returns-more t k u v e h z)

  -- a test that succeeds does so in as few steps as lead to an end,
  by-end : (t k q u : ℕ) → returns m t k u ≡ true → steps (next m) (suc q) u ≡ none → returns m t q u ≡ true
  by-end t zero q u e h = absurd (not-both false e refl)
  by-end t (suc k) zero u e h = let o = returns-is t k u e in absurd (none-ne-some o.to (sym h ∙ o.step))
  by-end t (suc k) (suc q) u e h = let o = returns-is t k u e in go o.to o.step o.then (λ v a b. by-end t k q v a b)
    where
      go : (v : ℕ) → next m u ≡ some v → (v ≡ t) ⊎ ((t < v) × (returns m t k v ≡ true)) → ((v : ℕ) → returns m t k v ≡ true → steps (next m) (suc q) v ≡ none → returns m t q v ≡ true) → returns m t (suc q) u ≡ true
      go v p (inl z) ih = returns-one t q u (p ∙ ap some z)
      go v p (inr z) ih = returns-more t q u v p z.0 (ih v z.1 (sym (front (next m) (suc q) u v p) ∙ h))

  -- or back
  by-round : (t k p u : ℕ) → returns m t k u ≡ true → 0 < p → steps (next m) p u ≡ some t → returns m t p u ≡ true
  by-round t zero p u e h s = absurd (not-both false e refl)
  by-round t (suc k) zero u e h s = absurd (not-suc-le-zero h)
  by-round t (suc k) (suc p) u e h s = let o = returns-is t k u e in go o.to o.step o.then (λ v a b c. by-round t k p v a b c)
    where
      go : (v : ℕ) → next m u ≡ some v → (v ≡ t) ⊎ ((t < v) × (returns m t k v ≡ true)) → ((v : ℕ) → returns m t k v ≡ true → 0 < p → steps (next m) p v ≡ some t → returns m t p v ≡ true) → returns m t (suc p) u ≡ true
      go v x (inl z) ih = returns-one t p u (x ∙ ap some z)
      go v x (inr z) ih = returns-more t p u v x z.0 (ih v z.1 (pos p s') s')
        where
          s' : steps (next m) p v ≡ some t
          s' = sym (front (next m) p u v x) ∙ s

          pos : (p : ℕ) → steps (next m) p v ≡ some t → 0 < p
          pos zero y = let w : v ≡ t = cc in let l = z.0 in absurd (omega arith)
          pos (suc p) y = omega arith

  returns-longer : (t k u : ℕ) → returns m t k u ≡ true → returns m t (suc k) u ≡ true
  returns-longer t zero u e = absurd (not-both false e refl)
  returns-longer t (suc k) u e = let o = returns-is t k u e in go o.to o.step o.then (λ v a. returns-longer t k v a)
    where
      go : (v : ℕ) → next m u ≡ some v → (v ≡ t) ⊎ ((t < v) × (returns m t k v ≡ true)) → ((v : ℕ) → returns m t k v ≡ true → returns m t (suc k) v ≡ true) → returns m t (suc (suc k)) u ≡ true
      go v x (inl z) ih = returns-one t (suc k) u (x ∙ ap some z)
      go v x (inr z) ih = returns-more t (suc k) u v x z.0 (ih v z.1)

  returns-long : (t n k u : ℕ) → k ≤ n → returns m t k u ≡ true → returns m t n u ≡ true
  returns-long t zero k u h e = subst (λ (x : ℕ). returns m t x u ≡ true) (let z : k ≡ 0 = omega arith in z) e
  returns-long t (suc n) k u h e = go (cases_eq k (suc n)) (λ p. returns-long t n k u p e)
    where
      go : (k ≡ suc n) ⊎ (k ≡ suc n → ⊥) → (k ≤ n → returns m t n u ≡ true) → returns m t (suc n) u ≡ true
      go (inl p) ih = subst (λ (x : ℕ). returns m t x u ≡ true) p e
      go (inr p) ih = returns-longer t n u (ih (omega (arith, p)))

  -- a way round is found
  pub of-round : (t : ℕ) → Way m t t t → lowest m t ≡ true
  of-round t y = let (k, e) = of-way t t t y refl in go k e (ended-or (next m) (length m) (next-in m) t)
    where
      go : (k : ℕ) → returns m t k t ≡ true → (steps (next m) (suc (length m)) t ≡ none) ⊎ Round (next m) (length m) t → lowest m t ≡ true
      go k e (inl h) = by-end t k (length m) t e h
      go k e (inr r) = let (p, a, b, c) = again (next m) (length m) t (next-only m) r in returns-long t (length m) p t b (by-round t k p t e a c)

  pub to-round : (t : ℕ) → lowest m t ≡ true → Way m t t t
  to-round t e = to-way t (length m) t e

  pub no-round : (t : ℕ) → lowest m t ≡ false → Way m t t t → ⊥
  no-round t e y = not-both (lowest m t) (of-round t y) e

  -- ---- links

  pub link-is : (u v : ℕ) → link m u ≡ some v → (next m u ≡ some v) × (lowest m v ≡ false)
  link-is u v e = go (next m u) refl e
    where
      go : (o : Option ℕ) → next m u ≡ o → cut m o ≡ some v → (next m u ≡ some v) × (lowest m v ≡ false)
      go none p q = absurd (none-ne-some v q)
      go (some w) p q = at (lowest m w) refl q
        where
          at : (b : Bool) → lowest m w ≡ b → cond b none (some w) ≡ some v → (next m u ≡ some v) × (lowest m v ≡ false)
          at true x y = absurd (none-ne-some v y)
          at false x y = let z : w ≡ v = cc in (p ∙ ap some z, ap (lowest m) (sym z) ∙ x)

  pub of-link : (u v : ℕ) → next m u ≡ some v → lowest m v ≡ false → link m u ≡ some v
  of-link u v e h = ap (cut m) e ∙ ap (λ (b : Bool). cond b none (some v)) h

  -- from u on a ring of links to x: a way, or a lower section of the ring
  around : (p x d u : ℕ) → 0 < d → steps (link m) d u ≡ some x → steps (link m) p u ≡ some u → Way m x u x ⊎ ((y : ℕ) × (y < x) × (steps (link m) p y ≡ some y))
  around p x zero u h e c = absurd (not-suc-le-zero h)
  around p x (suc d) u h e c = go (link m u) refl (λ v a b z. around p x d v a b z)
    where
      go : (o : Option ℕ) → link m u ≡ o → ((v : ℕ) → 0 < d → steps (link m) d v ≡ some x → steps (link m) p v ≡ some v → Way m x v x ⊎ ((y : ℕ) × (y < x) × (steps (link m) p y ≡ some y)))
          → Way m x u x ⊎ ((y : ℕ) × (y < x) × (steps (link m) p y ≡ some y))
      go none q ih = absurd (none-ne-some x (sym (front-none (link m) d u q) ∙ e))
      go (some v) q ih = at (cases_eq v x) (lt-or-le x v)
        where
          n : next m u ≡ some v
          n = (link-is u v q).0

          e' : steps (link m) d v ≡ some x
          e' = sym (front (link m) d u v q) ∙ e

          -- v comes back as u does
          c' : steps (link m) p v ≡ some v
          c' = sym (front (link m) p u v q) ∙ (ap (λ (o : Option ℕ). onward (link m) o) c ∙ q)

          pos : (d : ℕ) → (v ≡ x → ⊥) → steps (link m) d v ≡ some x → 0 < d
          pos zero z y = absurd (z cc)
          pos (suc d) z y = omega arith

          rest : x < v → Way m x v x ⊎ ((y : ℕ) × (y < x) × (steps (link m) p y ≡ some y)) → Way m x u x ⊎ ((y : ℕ) × (y < x) × (steps (link m) p y ≡ some y))
          rest k (inl r) = inl (more n k r)
          rest k (inr r) = inr r

          at : (v ≡ x) ⊎ (v ≡ x → ⊥) → (x < v) ⊎ (v ≤ x) → Way m x u x ⊎ ((y : ℕ) × (y < x) × (steps (link m) p y ≡ some y))
          at (inl z) k = inl (one (n ∙ ap some z))
          at (inr z) (inl k) = rest k (ih v (pos d z e') e' c')
          at (inr z) (inr k) = inr (v, omega (arith, z), c')

  -- no ring of links
  no-ring : (b p x : ℕ) → x < b → 0 < p → steps (link m) p x ≡ some x → ⊥
  no-ring zero p x h k e = not-suc-le-zero h
  no-ring (suc b) p x h k e = go (around p x p x k e e) (λ y q z. no-ring b p y q k z)
    where
      never : (p : ℕ) → 0 < p → steps (link m) p x ≡ some x → lowest m x ≡ false
      never zero k e = absurd (not-suc-le-zero k)
      never (suc p) k e = let y = last (link m) p x x e in (link-is y.0 x y.2).1

      go : Way m x x x ⊎ ((y : ℕ) × (y < x) × (steps (link m) p y ≡ some y)) → ((y : ℕ) → y < b → steps (link m) p y ≡ some y → ⊥) → ⊥
      go (inl r) ih = no-round x (never p k e) r
      go (inr r) ih = ih r.0 (let q = r.1 in omega arith) r.2

  -- so links end
  pub link-ends : (u : ℕ) → Ends (link m) (length m) u
  link-ends u = go (ended-or (link m) (length m) (λ a b e. next-in m a b (link-is a b e).0) u)
    where
      go : (steps (link m) (suc (length m)) u ≡ none) ⊎ Round (link m) (length m) u → Ends (link m) (length m) u
      go (inl h) = to-ends (link m) (length m) u h
      go (inr r) =
          let q = r.before in
          let d = r.late - r.early in
          absurd (no-ring (suc r.at) d r.at (omega arith) (omega arith) (sym (after (link m) d r.early r.late u r.at (omega arith) r.first) ∙ r.second))
