-- A join of i with j, which i may take in and which is not the lowest of a ring: a way is a way before and after, so rings keep their lowest
-- sections, links are contracted (Contract), and what is gathered stays. Assumes no more than that.
use Rattle.std.specs.Prelude.{◌≡◌, refl, ◌⊎◌, Bool, true, false, cond, List, ℕ, ◌≤◌, ◌<◌, eqb, length, get_or}
use Rattle.std.proofs.Common.{sym, ap, subst, ◌∙◌, inl, inr, arith, eq-eqb, ne_eqb}
use Rattle.std.proofs.Math.Option.{Option, none, some, none-ne-some, map as mapped}
use Rattle.std.proofs.lemmas.Bool.{cases_eq}
use Rattle.rules.specs.Combine.{next, combineAt}
use Rattle.rules.specs.Instr.{fall}
use Rattle.rules.specs.Machine.{SectionCode, absent}
use Rattle.joins.specs.Joins.{second-in, length-join}
use Rattle.joins.specs.Numbers.{lt-or-le, fall-same}
use Rattle.joins.specs.Pairs.{to-pair}
use Rattle.gather.proofs.Contract.{was, Ends, all, Contracts, contracted}
use Rattle.gather.specs.Gather.{lowest, cut, link, gather}
use Rattle.gather.proofs.Join.{next-in, next-only, at-other, at-first, next-stays, next-joint, next-round}
use Rattle.gather.proofs.Numbers.{fall-lt, same-test}
use Rattle.gather.proofs.Rings.{Way, way-then, way-lower, of-round, to-round, no-round, link-is, of-link, link-ends, one, more}

module _ (m : List SectionCode) (i j : ℕ) (e : next m i ≡ some j) where
  i≢j : i ≡ j → ⊥
  i≢j = (to-pair m i j e).apart

  -- no other section may take j in
  not-j : (u x : ℕ) → (u ≡ i → ⊥) → next m u ≡ some x → x ≡ j → ⊥
  not-j u x p q z = p (next-only m u i j (q ∙ ap some z) e)

  -- ---- a step, joined

  -- where section u has gone
  into : ℕ → ℕ
  into u = cond (eqb u j) (fall j i) (fall j u)

  into-second : into j ≡ fall j i
  unfolding into
  into-second = rw (eq-eqb j j refl)

  into-other : (u : ℕ) → (u ≡ j → ⊥) → into u ≡ fall j u
  unfolding into
  into-other u p = rw (ne_eqb u j p)

  -- a step to j, from j back to i, or one that stays a step
  data Step (u x : ℕ) : Type 0 where
    enter : u ≡ i → x ≡ j → Step u x
    round : u ≡ j → x ≡ i → Step u x
    step : (x ≡ j → ⊥) → next (combineAt m i j) (into u) ≡ some (fall j x) → Step u x

  step-of : (u x : ℕ) → next m u ≡ some x → Step u x
  step-of u x q = go (cases_eq u i) (cases_eq u j) (cases_eq x i)
    where
      go : (u ≡ i) ⊎ (u ≡ i → ⊥) → (u ≡ j) ⊎ (u ≡ j → ⊥) → (x ≡ i) ⊎ (x ≡ i → ⊥) → Step u x
      go (inl a) b c = let z : some x ≡ some j = sym q ∙ (ap (next m) a ∙ e) in enter a cc
      go (inr a) (inl b) (inl c) = round b c
      go (inr a) (inl b) (inr c) =
          let q' : next m j ≡ some x = ap (next m) (sym b) ∙ q in
          step (not-j u x a q) (ap (next (combineAt m i j)) (ap into b ∙ into-second) ∙ (next-joint m i j e (λ y. let z : some x ≡ some i = sym q' ∙ y in c cc) ∙ ap (mapped (fall j)) q'))
      go (inr a) (inr b) c = step (not-j u x a q) (ap (next (combineAt m i j)) (into-other u b) ∙ (next-stays m i j e u b a ∙ ap (mapped (fall j)) q))

  -- a way stays a way
  way-joined : (v u w : ℕ) → (v ≡ j → ⊥) → (w ≡ j → ⊥) → (next m j ≡ some i → w ≡ i → ⊥) → Way m v u w → Way (combineAt m i j) (fall j v) (into u) (fall j w)
  way-joined v u w p q h (one a) = go (step-of u w a)
    where
      go : Step u w → Way (combineAt m i j) (fall j v) (into u) (fall j w)
      go (enter x y) = absurd (q y)
      go (round x y) = absurd (h (ap (next m) (sym x) ∙ (a ∙ ap some y)) y)
      go (step x y) = one y
  way-joined v u w p q h (more {v = x} a k r) = go (step-of u x a) (way-joined v x w p q h r)
    where
      go : Step u x → Way (combineAt m i j) (fall j v) (into x) (fall j w) → Way (combineAt m i j) (fall j v) (into u) (fall j w)
      go (enter y z) r' = subst (λ (n : ℕ). Way (combineAt m i j) (fall j v) n (fall j w)) (ap into z ∙ (into-second ∙ (sym (into-other i i≢j) ∙ ap into (sym y)))) r'
      go (round y z) r' = subst (λ (n : ℕ). Way (combineAt m i j) (fall j v) n (fall j w)) (ap into z ∙ (into-other i i≢j ∙ (sym into-second ∙ ap into (sym y)))) r'
      go (step y z) r' = more z (fall-lt j v x p y k) (subst (λ (n : ℕ). Way (combineAt m i j) (fall j v) n (fall j w)) (into-other x y) r')

  -- ---- a step of the joined machine

  -- the step, or the two by j, that it was
  record Origin (u x' : ℕ) : Type 0 where
    to : ℕ
    other : to ≡ j → ⊥
    falls : fall j to ≡ x'
    how : (next m u ≡ some to) ⊎ ((u ≡ i) × (next m j ≡ some to))

  origin : (u x' : ℕ) → (u ≡ j → ⊥) → next (combineAt m i j) (fall j u) ≡ some x' → Origin u x'
  origin u x' p q = go (cases_eq u i)
    where
      at-i : (u ≡ i) → (o : Option ℕ) → next m j ≡ o → Origin u x'
      at-i a none y = absurd (none-ne-some x' (sym (next-joint m i j e (λ z. none-ne-some i (sym y ∙ z)) ∙ ap (mapped (fall j)) y) ∙ (ap (λ (n : ℕ). next (combineAt m i j) (fall j n)) (sym a) ∙ q)))
      at-i a (some x) y = by (cases_eq x i)
        where
          q' : next (combineAt m i j) (fall j i) ≡ some x'
          q' = ap (λ (n : ℕ). next (combineAt m i j) (fall j n)) (sym a) ∙ q

          by : (x ≡ i) ⊎ (x ≡ i → ⊥) → Origin u x'
          by (inl b) = absurd (none-ne-some x' (sym (next-round m i j e (y ∙ ap some b)) ∙ q'))
          by (inr b) =
              let z : some (fall j x) ≡ some x' = sym (next-joint m i j e (λ c. let d : some x ≡ some i = sym y ∙ c in b cc) ∙ ap (mapped (fall j)) y) ∙ q' in
              record { to = x; other = not-j j x (λ c. i≢j (sym c)) y; falls = cc; how = inr (a, y) }

      go : (u ≡ i) ⊎ (u ≡ i → ⊥) → Origin u x'
      go (inl a) = at-i a (next m j) refl
      go (inr a) =
          let (x, y, z) = was (fall j) (next m u) x' (sym (next-stays m i j e u p a) ∙ q) in
          record { to = x; other = not-j u x a y; falls = z; how = inl y }

  lt-back : (v x : ℕ) → (v ≡ j → ⊥) → (x ≡ j → ⊥) → fall j v < fall j x → v < x
  lt-back v x p q h = go (lt-or-le v x) (cases_eq v x)
    where
      go : (v < x) ⊎ (x ≤ v) → (v ≡ x) ⊎ (v ≡ x → ⊥) → v < x
      go (inl a) b = a
      go (inr a) (inl b) = absurd (let z = ap (fall j) b in omega arith)
      go (inr a) (inr b) = absurd (let z = fall-lt j x v q p (omega (arith, b)) in omega arith)

  -- a way there is a way here, or leads through j
  abbrev Split : ℕ → ℕ → ℕ → ℕ → Type 0
  Split t v w u = Way m v u w ⊎ (Way m t u j × Way m t j w)

  module _ (t v w : ℕ) (t≤v : t ≤ v) (v≢j : v ≡ j → ⊥) (w≢j : w ≡ j → ⊥) where
    split-one : (u : ℕ) → Origin u (fall j w) → Split t v w u
    split-one u c = go c.how (fall-same j c.to w c.other w≢j c.falls)
      where
        go : (next m u ≡ some c.to) ⊎ ((u ≡ i) × (next m j ≡ some c.to)) → c.to ≡ w → Split t v w u
        go (inl a) b = inl (one (a ∙ ap some b))
        go (inr a) b = inr (one (ap (next m) a.0 ∙ e), one (a.1 ∙ ap some b))

    split-more : (u x : ℕ) → v < x → (next m u ≡ some x) ⊎ ((u ≡ i) × (next m j ≡ some x)) → Split t v w x → Split t v w u
    split-more u x k (inl a) (inl r) = inl (more a k r)
    split-more u x k (inl a) (inr r) = inr (more a (omega (arith, t≤v)) r.0, r.1)
    split-more u x k (inr a) (inl r) = inr (one (ap (next m) a.0 ∙ e), more a.1 (omega (arith, t≤v)) (way-lower m v t x w t≤v r))
    split-more u x k (inr a) (inr r) = inr (one (ap (next m) a.0 ∙ e), r.1)

    split : (u' w' : ℕ) → Way (combineAt m i j) (fall j v) u' w' → w' ≡ fall j w → (u : ℕ) → (u ≡ j → ⊥) → fall j u ≡ u' → Split t v w u
    split u' w' (one a) z u p q = split-one u (origin u (fall j w) p (ap (next (combineAt m i j)) q ∙ (a ∙ ap some z)))
    split u' w' (more {v = x'} a k r) z u p q =
        let c = origin u x' p (ap (next (combineAt m i j)) q ∙ a) in
        split-more u c.to (lt-back v c.to v≢j c.other (subst (λ (n : ℕ). fall j v < n) (sym c.falls) k)) c.how (split x' w' r z c.to c.other c.falls)

  -- ---- the lowest of a ring stays

  module _ (low : lowest m j ≡ false) where
    pub lowest-stays : (v : ℕ) → (v ≡ j → ⊥) → (next m j ≡ some i → v ≡ i → ⊥) → lowest (combineAt m i j) (fall j v) ≡ lowest m v
    lowest-stays v p h = same-test (lowest (combineAt m i j) (fall j v)) (lowest m v) back there
      where
        there : lowest m v ≡ true → lowest (combineAt m i j) (fall j v) ≡ true
        there q = of-round (combineAt m i j) (fall j v) (subst (λ (n : ℕ). Way (combineAt m i j) (fall j v) n (fall j v)) (into-other v p) (way-joined v v v p p h (to-round m v q)))

        above : v < j → Split v v v v → Way m v v v
        above k (inl r) = r
        above k (inr r) = way-then m v v j v r.0 k r.1

        below : j < v → Split j v v v → Way m v v v
        below k (inl r) = r
        below k (inr r) = absurd (no-round m j low (way-then m j j v j r.1 k r.0))

        back : lowest (combineAt m i j) (fall j v) ≡ true → lowest m v ≡ true
        back q = of-round m v (go (lt-or-le j v))
          where
            y : Way (combineAt m i j) (fall j v) (fall j v) (fall j v)
            y = to-round (combineAt m i j) (fall j v) q

            go : (j < v) ⊎ (v ≤ j) → Way m v v v
            go (inl k) = below k (split j v v (omega arith) p p (fall j v) (fall j v) y refl v p refl)
            go (inr k) = above (omega (arith, p)) (split v v v (omega arith) p p (fall j v) (fall j v) y refl v p refl)

    -- where j may take i in as well, i is the lowest of that ring
    pub back-lowest : next m j ≡ some i → lowest m i ≡ true
    back-lowest r = of-round m i (more e (up (lt-or-le i j)) (one r))
      where
        up : (i < j) ⊎ (j ≤ i) → i < j
        up (inl k) = k
        up (inr k) = absurd (no-round m j low (more r (omega (arith, i≢j)) (one e)))

    -- ---- links

    cut-stays : (o : Option ℕ) → ((v : ℕ) → o ≡ some v → (v ≡ j → ⊥) × (next m j ≡ some i → v ≡ i → ⊥)) → cut (combineAt m i j) (mapped (fall j) o) ≡ mapped (fall j) (cut m o)
    cut-stays none h = refl
    cut-stays (some v) h = ap (λ (b : Bool). cond b none (some (fall j v))) (lowest-stays v (h v refl).0 (h v refl).1) ∙ go (lowest m v)
      where
        go : (b : Bool) → cond b none (some (fall j v)) ≡ mapped (fall j) (cond b none (some v))
        go true = refl
        go false = refl

    link-other : (u : ℕ) → (u ≡ j → ⊥) → (u ≡ i → ⊥) → link (combineAt m i j) (fall j u) ≡ mapped (fall j) (link m u)
    link-other u p q = ap (cut (combineAt m i j)) (next-stays m i j e u p q) ∙ cut-stays (next m u) (λ v a. (not-j u v q a, λ b c. p (next-only m u j i (a ∙ ap some c) b)))

    link-joint : link (combineAt m i j) (fall j i) ≡ mapped (fall j) (link m j)
    link-joint = go (next m j) refl
      where
        go : (o : Option ℕ) → next m j ≡ o → link (combineAt m i j) (fall j i) ≡ mapped (fall j) (link m j)
        go none q = ap (cut (combineAt m i j)) (next-joint m i j e (λ z. none-ne-some i (sym q ∙ z))) ∙ cut-stays (next m j) (λ v a. absurd (none-ne-some v (sym q ∙ a)))
        go (some x) q = by (cases_eq x i)
          where
            by : (x ≡ i) ⊎ (x ≡ i → ⊥) → link (combineAt m i j) (fall j i) ≡ mapped (fall j) (link m j)
            by (inl a) =
                let r : next m j ≡ some i = q ∙ ap some a in
                ap (cut (combineAt m i j)) (next-round m i j e r)
                ∙ sym (ap (λ (o : Option ℕ). mapped (fall j) (cut m o)) r ∙ ap (λ (b : Bool). mapped (fall j) (cond b none (some i))) (back-lowest r))
            by (inr a) =
                let away : next m j ≡ some i → ⊥ = λ z. (let d : some x ≡ some i = sym q ∙ z in a cc) in
                ap (cut (combineAt m i j)) (next-joint m i j e away) ∙ cut-stays (next m j) (λ v b. (not-j j v (λ c. i≢j (sym c)) b, λ c. absurd (away c)))

    contracts : Contracts (length (combineAt m i j)) i j (link m) (link (combineAt m i j))
    contracts =
        record {
          apart = i≢j;
          first = omega (arith, length-join m i j (to-pair m i j e), next-in m i j e);
          second = omega (arith, length-join m i j (to-pair m i j e), second-in m i j (to-pair m i j e));
          inside = λ u v q. omega (arith, length-join m i j (to-pair m i j e), next-in m u v (link-is m u v q).0);
          here = of-link m i j e low;
          only = λ u q. next-only m u i j (link-is m u j q).0 e;
          other = link-other;
          joint = link-joint;
        }

    -- What is gathered stays.
    pub join-gather : gather (combineAt m i j) ≡ gather m
    unfolding gather
    join-gather =
        contracted
        (length (combineAt m i j))
        i
        j
        (link m)
        (link (combineAt m i j))
        contracts
        (λ u. get_or m u absent)
        (λ u. get_or (combineAt m i j) u absent)
        (at-other m i j e)
        (at-first m i j e)
        (λ u. subst (λ (k : ℕ). Ends (link m) k u) (sym (length-join m i j (to-pair m i j e))) (link-ends m u))
        (link-ends (combineAt m i j))
        ∙ ap (all (link m) (λ u. get_or m u absent)) (length-join m i j (to-pair m i j e))
