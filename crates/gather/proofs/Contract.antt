-- Links, and what is gathered along them, where the one from i to j is contracted: j is drawn into i, numbers above j fall. Heads, their ranks and chains
-- stay, so what is gathered stays. Assumes that no other link leads to j, and that links end.
use Rattle.std.specs.Prelude.{◌≡◌, refl, ◌⊎◌, Bool, true, false, cond, not, ◌||◌, List, [], ◌∷◌, ℕ, zero, suc, ◌+◌, ◌≤◌, ◌<◌, eqb}
use Rattle.std.proofs.Common.{sym, ap, ap₂, subst, ◌∙◌, inl, inr, not-suc-le-zero, arith, eqb-true, eq-eqb}
use Rattle.std.proofs.Math.Option.{Option, none, some, none-ne-some, map as mapped}
use Rattle.std.proofs.lemmas.Bool.{cases_eq, or_right}
use Rattle.rules.specs.Clean.{ren}
use Rattle.rules.specs.Combine.{joined}
use Rattle.rules.specs.Instr.{fall}
use Rattle.rules.specs.Machine.{SectionCode}
use Rattle.laws.specs.Lists.{not-both}
use Rattle.joins.specs.Numbers.{lt-or-le, fall-low, fall-high, fall-below, fall-same, rises}
use Rattle.gather.specs.Gather.{isAt, linked, chain, rankBy, pick}
use Rattle.gather.proofs.Numbers.{same-test, ren-again, ren-alike, ren-joined, joined-assoc}

-- what a mapped option was
pub was : (f : ℕ → ℕ) (o : Option ℕ) (w : ℕ) → mapped f o ≡ some w → (v : ℕ) × (o ≡ some v) × (f v ≡ w)
was f none w e = absurd (none-ne-some w e)
was f (some v) w e = (v, refl, cc)

-- ---- links that end

-- from u, within k links
abbrev pub Ends : (ℕ → Option ℕ) → ℕ → ℕ → Type 0
Ends l zero u = l u ≡ none
Ends l (suc k) u = (v : ℕ) → l u ≡ some v → Ends l k v

module _ (l : ℕ → Option ℕ) (s : ℕ → SectionCode) where
  -- a chain ends where there is no link, goes on where there is one, and stays, once it has ended within k links
  pub chain-none : (k u : ℕ) → l u ≡ none → chain l s k u ≡ s u
  chain-none zero u e = refl
  chain-none (suc k) u e = rw (e, chain)

  pub chain-some : (k u v : ℕ) → l u ≡ some v → chain l s (suc k) u ≡ joined (s u) (chain l s k v)
  chain-some k u v e = rw (e, chain)

  pub chain-more : (k u : ℕ) → Ends l k u → chain l s (suc k) u ≡ chain l s k u
  chain-more zero u h = chain-none 1 u h
  chain-more (suc k) u h = go (l u) refl (λ v e. chain-more k v (h v e))
    where
      go : (o : Option ℕ) → l u ≡ o → ((v : ℕ) → l u ≡ some v → chain l s (suc k) v ≡ chain l s k v) → chain l s (suc (suc k)) u ≡ chain l s (suc k) u
      go none e ih = chain-none (suc (suc k)) u e ∙ sym (chain-none (suc k) u e)
      go (some v) e ih = chain-some (suc k) u v e ∙ (ap (joined (s u)) (ih v e) ∙ sym (chain-some k u v e))

-- ---- linked

module _ (l : ℕ → Option ℕ) where
  -- a link below k leads to t, and so it is tested
  pub linked-of : (k t u : ℕ) → u < k → l u ≡ some t → linked l k t ≡ true
  linked-of zero t u h e = absurd (not-suc-le-zero h)
  linked-of (suc k) t u h e = go (cases_eq u k) (λ p. linked-of k t u p e)
    where
      go : (u ≡ k) ⊎ (u ≡ k → ⊥) → (u < k → linked l k t ≡ true) → (isAt t (l k) || linked l k t) ≡ true
      go (inl p) ih = rw (← p, e, eq-eqb t t refl)
      go (inr p) ih = or_right (isAt t (l k)) (linked l k t) (ih (omega (arith, p)))

  pub linked-is : (k t : ℕ) → linked l k t ≡ true → (u : ℕ) × (u < k) × (l u ≡ some t)
  linked-is zero t e = absurd (not-both false e refl)
  linked-is (suc k) t e = go (l k) refl (λ q. linked-is k t q) e
    where
      up : (u : ℕ) × (u < k) × (l u ≡ some t) → (u : ℕ) × (u < suc k) × (l u ≡ some t)
      up (u, h, p) = (u, omega arith, p)

      go : (o : Option ℕ) → l k ≡ o → (linked l k t ≡ true → (u : ℕ) × (u < k) × (l u ≡ some t)) → (isAt t o || linked l k t) ≡ true → (u : ℕ) × (u < suc k) × (l u ≡ some t)
      go none p ih q = up (ih q)
      go (some v) p ih q = at (eqb v t) refl q
        where
          at : (b : Bool) → eqb v t ≡ b → (b || linked l k t) ≡ true → (u : ℕ) × (u < suc k) × (l u ≡ some t)
          at true r z = (k, omega arith, p ∙ ap some (eqb-true v t r))
          at false r z = up (ih z)

-- ---- ranks and picks, where j fails the test and every other number is tested alike

module _ (j : ℕ) (h h' : ℕ → Bool) (out : h j ≡ false) (alike : (t : ℕ) → (t ≡ j → ⊥) → h' (fall j t) ≡ h t) where
  low : (t : ℕ) → t < j → h' t ≡ h t
  low t p = ap h' (sym (fall-low j t (omega arith))) ∙ alike t (λ e. omega arith)

  high : (t : ℕ) → j ≤ t → h' t ≡ h (suc t)
  high t p = ap h' (sym (fall-high j (suc t) (omega arith))) ∙ alike (suc t) (λ e. omega arith)

  rank-low : (t : ℕ) → t ≤ j → rankBy h' t ≡ rankBy h t
  rank-low zero p = refl
  rank-low (suc t) p = ap₂ (λ (b : Bool) (n : ℕ). cond b (suc n) n) (low t (omega arith)) (rank-low t (omega arith))

  rank-high : (t : ℕ) → j ≤ t → rankBy h' t ≡ rankBy h (suc t)
  rank-high zero p = let z : j ≡ 0 = omega arith in let q : h 0 ≡ false = ap h (sym z) ∙ out in rw q
  rank-high (suc t) p = go (cases_eq j (suc t)) (λ q. rank-high t q)
    where
      go : (j ≡ suc t) ⊎ (j ≡ suc t → ⊥) → (j ≤ t → rankBy h' t ≡ rankBy h (suc t)) → rankBy h' (suc t) ≡ rankBy h (suc (suc t))
      go (inl e) ih = let q : h (suc t) ≡ false = ap h (sym e) ∙ out in rank-low (suc t) (omega arith) ∙ sym (ap (λ (b : Bool). cond b (suc (rankBy h (suc t))) (rankBy h (suc t))) q)
      go (inr e) ih = ap₂ (λ (b : Bool) (n : ℕ). cond b (suc n) n) (high t (omega (arith, e))) (ih (omega (arith, e)))

  rank-fall : (t : ℕ) → rankBy h' (fall j t) ≡ rankBy h t
  rank-fall t = go t (lt-or-le j t)
    where
      go : (t : ℕ) → (j < t) ⊎ (t ≤ j) → rankBy h' (fall j t) ≡ rankBy h t
      go zero (inl p) = absurd (not-suc-le-zero p)
      go (suc t) (inl p) = ap (rankBy h') (fall-high j (suc t) p) ∙ rank-high t (omega arith)
      go t (inr p) = ap (rankBy h') (fall-low j t p) ∙ rank-low t p

  module _ {A : Type 0} (f f' : ℕ → A) (same : (t : ℕ) → (t ≡ j → ⊥) → f' (fall j t) ≡ f t) where
    alikes : (a a' : Bool) (x x' : A) (r r' : List A) → a' ≡ a → x' ≡ x → r' ≡ r → cond a' (x' ∷ r') r' ≡ cond a (x ∷ r) r
    alikes a a' x x' r r' p q e = cc

    pick-high : (i k : ℕ) → j ≤ i → pick h' f' i k ≡ pick h f (suc i) k
    pick-high i zero p = refl
    pick-high i (suc k) p =
        alikes (h (suc i)) (h' i) (f (suc i)) (f' i) (pick h f (suc (suc i)) k) (pick h' f' (suc i) k) (high i p) (ap f' (sym (fall-high j (suc i) (omega arith))) ∙ same (suc i) (λ e. omega arith)) (pick-high (suc i) k (omega arith))

    pick-low : (i k : ℕ) → i ≤ j → j < i + suc k → pick h' f' i k ≡ pick h f i (suc k)
    pick-low i zero p q = let z : j ≡ i = omega arith in sym (ap (λ (b : Bool). cond b (f i ∷ []) []) (ap h (sym z) ∙ out))
    pick-low i (suc k) p q = go (cases_eq j i) (λ a. pick-low (suc i) k a (omega arith))
      where
        go : (j ≡ i) ⊎ (j ≡ i → ⊥) → (suc i ≤ j → pick h' f' (suc i) k ≡ pick h f (suc i) (suc k)) → pick h' f' i (suc k) ≡ pick h f i (suc (suc k))
        go (inl e) ih = pick-high i (suc k) (omega arith) ∙ sym (ap (λ (b : Bool). cond b (f i ∷ pick h f (suc i) (suc k)) (pick h f (suc i) (suc k))) (ap h (sym e) ∙ out))
        go (inr e) ih =
            alikes (h i) (h' i) (f i) (f' i) (pick h f (suc i) (suc k)) (pick h' f' (suc i) k) (low i (omega (arith, e))) (ap f' (sym (fall-low j i p)) ∙ same i (λ z. e (sym z))) (ih (omega (arith, e)))

-- ---- contracted

-- n sections s with the links l, gathered
abbrev pub all : (ℕ → Option ℕ) → (ℕ → SectionCode) → ℕ → List SectionCode
all l s n = pick (λ t. not (linked l n t)) (λ t. ren (rankBy (λ u. not (linked l n u))) (chain l s n t)) 0 n

-- suc n sections with the links l, of which i's leads to j; n sections with the links l'
pub record Contracts (n i j : ℕ) (l l' : ℕ → Option ℕ) : Type 0 where
  pub apart : i ≡ j → ⊥
  pub first : i < suc n
  pub second : j < suc n
  pub inside : (u v : ℕ) → l u ≡ some v → u < suc n
  pub here : l i ≡ some j
  pub only : (u : ℕ) → l u ≡ some j → u ≡ i
  pub other : (u : ℕ) → (u ≡ j → ⊥) → (u ≡ i → ⊥) → l' (fall j u) ≡ mapped (fall j) (l u)
  pub joint : l' (fall j i) ≡ mapped (fall j) (l j)

module _ (n i j : ℕ) (l l' : ℕ → Option ℕ) (c : Contracts n i j l l') where
  -- only i's link leads to j
  not-j : (u v : ℕ) → (u ≡ i → ⊥) → l u ≡ some v → v ≡ j → ⊥
  not-j u v p e q = p (c.only u (e ∙ ap some q))

  j≢i : j ≡ i → ⊥
  j≢i e = c.apart (sym e)

  there : (t : ℕ) → (t ≡ j → ⊥) → linked l (suc n) t ≡ true → linked l' n (fall j t) ≡ true
  there t p e = let (u, h, q) = linked-is l (suc n) t e in go u h q (cases_eq u j) (cases_eq u i)
    where
      go : (u : ℕ) → u < suc n → l u ≡ some t → (u ≡ j) ⊎ (u ≡ j → ⊥) → (u ≡ i) ⊎ (u ≡ i → ⊥) → linked l' n (fall j t) ≡ true
      go u h q (inl a) b = linked-of l' n (fall j t) (fall j i) (fall-below j i n c.first c.apart c.second) (c.joint ∙ ap (mapped (fall j)) (ap l (sym a) ∙ q))
      go u h q (inr a) (inl b) = let z : some j ≡ some t = sym c.here ∙ (ap l (sym b) ∙ q) in absurd (p (let y : j ≡ t = cc in sym y))
      go u h q (inr a) (inr b) = linked-of l' n (fall j t) (fall j u) (fall-below j u n h a c.second) (c.other u a b ∙ ap (mapped (fall j)) q)

  back : (t : ℕ) → (t ≡ j → ⊥) → linked l' n (fall j t) ≡ true → linked l (suc n) t ≡ true
  back t p e = let (w, h, q) = linked-is l' n (fall j t) e in let r = rises j w in go r.from r.other (ap l' r.falls ∙ q) (cases_eq r.from i)
    where
      go : (u : ℕ) → (u ≡ j → ⊥) → l' (fall j u) ≡ some (fall j t) → (u ≡ i) ⊎ (u ≡ i → ⊥) → linked l (suc n) t ≡ true
      go u a q (inl b) =
          let (v, x, y) = was (fall j) (l j) (fall j t) (sym c.joint ∙ (ap (λ (z : ℕ). l' (fall j z)) (sym b) ∙ q)) in
          linked-of l (suc n) t j c.second (x ∙ ap some (fall-same j v t (not-j j v j≢i x) p y))
      go u a q (inr b) =
          let (v, x, y) = was (fall j) (l u) (fall j t) (sym (c.other u a b) ∙ q) in
          linked-of l (suc n) t u (c.inside u v x) (x ∙ ap some (fall-same j v t (not-j u v b x) p y))

  heads-stay : (t : ℕ) → (t ≡ j → ⊥) → not (linked l' n (fall j t)) ≡ not (linked l (suc n) t)
  heads-stay t p = ap not (same-test (linked l' n (fall j t)) (linked l (suc n) t) (back t p) (there t p))

  head-out : not (linked l (suc n) j) ≡ false
  head-out = ap not (linked-of l (suc n) j i c.first c.here)

  module _ (s s' : ℕ → SectionCode) (one : (u : ℕ) → (u ≡ j → ⊥) → (u ≡ i → ⊥) → s' (fall j u) ≡ ren (fall j) (s u)) (two : s' (fall j i) ≡ ren (fall j) (joined (s i) (s j))) where
    abbrev Same : ℕ → ℕ → ℕ → Type 0
    Same k n u = chain l' s' n (fall j u) ≡ ren (fall j) (chain l s k u)

    -- where u has no link, and where it has one
    stop : (k n u : ℕ) → (u ≡ j → ⊥) → (u ≡ i → ⊥) → l u ≡ none → Same k n u
    stop k n u p q e = chain-none l' s' n (fall j u) (c.other u p q ∙ ap (mapped (fall j)) e) ∙ (one u p q ∙ ap (ren (fall j)) (sym (chain-none l s k u e)))

    goes : (k n u v : ℕ) → (u ≡ j → ⊥) → (u ≡ i → ⊥) → l u ≡ some v → Same k n v → Same (suc k) (suc n) u
    goes k n u v p q e r =
        chain-some l' s' n (fall j u) (fall j v) (c.other u p q ∙ ap (mapped (fall j)) e)
        ∙ (ap₂ joined (one u p q) r ∙ (sym (ren-joined (fall j) (s u) (chain l s k v)) ∙ ap (ren (fall j)) (sym (chain-some l s k u v e))))

    -- i, where j has no link, and where it has one
    last : (k n : ℕ) → l j ≡ none → Same (suc k) n i
    last k n e = chain-none l' s' n (fall j i) (c.joint ∙ ap (mapped (fall j)) e) ∙ (two ∙ ap (ren (fall j)) (sym (chain-some l s k i j c.here ∙ ap (joined (s i)) (chain-none l s k j e))))

    over : (k n v : ℕ) → l j ≡ some v → Same k n v → Same (suc (suc k)) (suc n) i
    over k n v e r =
        chain-some l' s' n (fall j i) (fall j v) (c.joint ∙ ap (mapped (fall j)) e)
        ∙ (ap₂ joined two r
        ∙ (sym (ren-joined (fall j) (joined (s i) (s j)) (chain l s k v))
        ∙ ap (ren (fall j)) (joined-assoc (s i) (s j) (chain l s k v) ∙ sym (chain-some l s (suc k) i j c.here ∙ ap (joined (s i)) (chain-some l s k j v e)))))

    -- a chain that ends within k links is the same chain, renumbered, within as many
    abbrev Claim : ℕ → Type 0
    Claim k = (n u : ℕ) → (u ≡ j → ⊥) → k ≤ n → Ends l k u → Same k n u

    at-i : (k n : ℕ) → ((a : ℕ) → a < suc k → Claim a) → k ≤ n → Ends l k j → (o : Option ℕ) → l j ≡ o → Same (suc k) (suc n) i
    at-i k n ih h e none q = last k (suc n) q
    at-i zero n ih h e (some w) q = absurd (none-ne-some w (sym e ∙ q))
    at-i (suc k) n ih h e (some w) q = over k n w q (ih k (omega arith) n w (not-j j w j≢i q) (omega arith) (e w q))

    claim : (k : ℕ) → ((a : ℕ) → a < k → Claim a) → Claim k
    claim k ih n u p h e = go (cases_eq u i) (l u) refl
      where
        at : (k n v : ℕ) → ((a : ℕ) → a < k → Claim a) → k ≤ n → Ends l k u → (u ≡ i) ⊎ (u ≡ i → ⊥) → l u ≡ some v → Same k n u
        at zero n v ih h e x q = absurd (none-ne-some v (sym e ∙ q))
        at (suc k) zero v ih h e x q = absurd (not-suc-le-zero h)
        at (suc k) (suc n) v ih h e (inl x) q = subst (Same (suc k) (suc n)) (sym x) (at-i k n ih (omega arith) (e j (ap l x ∙ c.here)) (l j) refl)
        at (suc k) (suc n) v ih h e (inr x) q = goes k n u v p x q (ih k (omega arith) n v (not-j u v x q) (omega arith) (e v q))

        go : (u ≡ i) ⊎ (u ≡ i → ⊥) → (o : Option ℕ) → l u ≡ o → Same k n u
        go (inl x) none q = absurd (none-ne-some j (sym q ∙ (ap l x ∙ c.here)))
        go (inr x) none q = stop k n u p x q
        go x (some v) q = at k n v ih h e x q

    claims : (k a : ℕ) → a < k → Claim a
    claims zero a h = absurd (not-suc-le-zero h)
    claims (suc k) a h = claim a (λ b p. claims k b (omega arith))

    pub contracted : ((u : ℕ) → Ends l (suc n) u) → ((u : ℕ) → Ends l' n u) → all l' s' n ≡ all l s (suc n)
    contracted e e' =
        pick-low
        j
        h
        h'
        head-out
        heads-stay
        (λ t. ren (rankBy h) (chain l s (suc n) t))
        (λ t. ren (rankBy h') (chain l' s' n t))
        (λ t p.
        ap (ren (rankBy h')) (sym (chain-more l' s' n (fall j t) (e' (fall j t))) ∙ claims (suc (suc n)) (suc n) (omega arith) (suc n) t p (omega arith) (e t))
        ∙ (ren-again (fall j) (rankBy h') (chain l s (suc n) t) ∙ ren-alike (λ u. rankBy h' (fall j u)) (rankBy h) (rank-fall j h h' head-out heads-stay) (chain l s (suc n) t)))
        0
        n
        (omega arith)
        (omega (arith, c.second))
      where
        h : ℕ → Bool
        h t = not (linked l (suc n) t)

        h' : ℕ → Bool
        h' t = not (linked l' n t)
