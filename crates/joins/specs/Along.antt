-- Joins until no pair is left: what each join keeps, combining keeps, and it ends. `Ready` is what every join of a machine with L lines keeps:
-- all sections are fixed, and the first L start lines.
use Rattle.std.specs.Prelude.{◌≡◌, refl, List, [], ◌∷◌, map, ℕ, zero, suc, ◌≤◌, ◌<◌, length, get_or, take, set}
use Rattle.std.proofs.Common.{sym, ap, ◌∙◌, ◌⊎◌, inl, inr, le_of_suc-le-suc, not-suc-le-zero, arith}
use Rattle.std.proofs.lemmas.Bool.{false≢true}
use Rattle.std.proofs.Math.Bool.{true}
use Rattle.std.proofs.Math.Option.{Option, none, some}
use Rattle.rules.specs.Instr.{fall}
use Rattle.rules.specs.Machine.{SectionOrLine, unfixed, section, line, SectionCode, absent, isFixed}
use Rattle.rules.specs.Clean.{renNext, ren}
use Rattle.rules.specs.Combine.{without, pair, combineAt, combineFuel, combineSections}
use Rattle.joins.specs.Numbers.{lt-or-le, fall-low}
use Rattle.joins.specs.Pairs.{Pair, pair-found, fuel-none}
use Rattle.joins.specs.Joins.{Joint, Taken, first-in, second-in, start-join, length-join}

-- ---- all sections fixed

abbrev pub Fixed : List SectionCode → Type 0
Fixed [] = Unit {0}
Fixed (s ∷ m) = (isFixed s.success ≡ true) × Fixed m

pub fixed-at : (m : List SectionCode) → Fixed m → (t : ℕ) → t < length m → isFixed (get_or m t absent).success ≡ true
fixed-at [] h t l = absurd (not-suc-le-zero l)
fixed-at (s ∷ m) h zero l = h.0
fixed-at (s ∷ m) h (suc t) l = fixed-at m h.1 t (le_of_suc-le-suc l)

fixed-ren : (f : ℕ → ℕ) (x : SectionOrLine) → isFixed (renNext f x) ≡ isFixed x
fixed-ren f unfixed = refl
fixed-ren f (section t) = refl
fixed-ren f (line r) = refl

pub fixed-map : (f : ℕ → ℕ) (l : List SectionCode) → Fixed l → Fixed (map (ren f) l)
fixed-map f [] h = h
fixed-map f (s ∷ l) h = (fixed-ren f s.success ∙ h.0, fixed-map f l h.1)

fixed-set : (l : List SectionCode) (n : ℕ) (s : SectionCode) → isFixed s.success ≡ true → Fixed l → Fixed (set l n s)
fixed-set [] n s h f = f
fixed-set (x ∷ l) zero s h f = (h, f.1)
fixed-set (x ∷ l) (suc n) s h f = (f.0, fixed-set l n s h f.1)

fixed-without : (l : List SectionCode) (n : ℕ) → Fixed l → Fixed (without l n)
fixed-without [] n f = f
fixed-without (x ∷ l) zero f = f.1
fixed-without (x ∷ l) (suc n) f = (f.0, fixed-without l n f.1)

pub fixed-take : (n : ℕ) (l : List SectionCode) → Fixed l → Fixed (take n l)
fixed-take zero l f = tt
fixed-take (suc n) [] f = tt
fixed-take (suc n) (s ∷ l) f = (f.0, fixed-take n l f.1)

-- ---- a machine of L lines

pub record Ready (L : ℕ) (m : List SectionCode) : Type 0 where
  pub fixed : Fixed m
  pub starts : (t : ℕ) → t < L → (get_or m t absent).lineStart ≡ true

module _ (L : ℕ) where
  module _ (m : List SectionCode) (ready : Ready L m) (i j : ℕ) (pr : Pair m i j) where
    -- S2 lies behind the lines
    pub behind-lines : L ≤ j
    behind-lines = go (lt-or-le j L)
      where
        go : (j < L) ⊎ (L ≤ j) → L ≤ j
        go (inl h) = absurd (false≢true (sym pr.inner ∙ ready.starts j h))
        go (inr h) = h

    -- and both are there
    pub pair-below : (i < length m) × (j < length m) × (L ≤ j)
    pair-below = (first-in m i j pr, second-in m i j pr, behind-lines)

    pub join-ready : Ready L (combineAt m i j)
    unfolding combineAt
    join-ready =
        record {
          fixed = fixed-map (fall j) (without (Taken m i j pr) j) (fixed-without (Taken m i j pr) j (fixed-set m i (Joint m i j pr) (fixed-at m ready.fixed j (second-in m i j pr)) ready.fixed));
          starts = λ t h.
              let b = behind-lines in
              let f : fall j t ≡ t = fall-low j t (omega arith) in
              ap (λ (n : ℕ). (get_or (combineAt m i j) n absent).lineStart) (sym f) ∙ (start-join m i j pr t (λ e. omega arith) ∙ ready.starts t h);
        }

  -- what every join keeps, combining keeps
  along-fuel : (Q : List SectionCode → Type 0) → ((m : List SectionCode) → Ready L m → (i j : ℕ) → Pair m i j → Q m → Q (combineAt m i j)) → (k : ℕ) (m : List SectionCode) → Ready L m → Q m → Q (combineFuel k m)
  along-fuel Q h zero m r q = q
  along-fuel Q h (suc k) m r q = go (pair m) refl (λ n a b. along-fuel Q h k n a b)
    where
      go : (o : Option (ℕ × ℕ)) → pair m ≡ o → ((n : List SectionCode) → Ready L n → Q n → Q (combineFuel k n)) → Q (combineFuel (suc k) m)
      go none e ih = rw (e, combineFuel) q
      go (some p) e ih =
          let pr = pair-found m p e in
          rw (e, combineFuel) (ih (combineAt m p.0 p.1) (join-ready m r p.0 p.1 pr) (h m r p.0 p.1 pr q))

  pub combine-along : (Q : List SectionCode → Type 0) → ((m : List SectionCode) → Ready L m → (i j : ℕ) → Pair m i j → Q m → Q (combineAt m i j)) → (m : List SectionCode) → Ready L m → Q m → Q (combineSections m)
  unfolding combineSections
  combine-along Q h m r q = along-fuel Q h (length m) m r q

  pub combine-ready : (m : List SectionCode) → Ready L m → Ready L (combineSections m)
  combine-ready m r = combine-along (Ready L) (λ n s i j pr q. join-ready n s i j pr) m r r

-- each join takes one section away, so none is left
none-left : (k : ℕ) (m : List SectionCode) → length m ≤ k → pair (combineFuel k m) ≡ none
none-left zero [] h = refl
none-left zero (s ∷ m) h = absurd (not-suc-le-zero h)
none-left (suc k) m h = go (pair m) refl (λ n l. none-left k n l)
  where
    go : (o : Option (ℕ × ℕ)) → pair m ≡ o → ((n : List SectionCode) → length n ≤ k → pair (combineFuel k n) ≡ none) → pair (combineFuel (suc k) m) ≡ none
    go none e ih = rw (e, combineFuel) e
    go (some p) e ih = rw (e, combineFuel) (ih (combineAt m p.0 p.1) (omega (arith, length-join m p.0 p.1 (pair-found m p e))))

pub combine-ends : (m : List SectionCode) → pair (combineSections m) ≡ none
unfolding combineSections
combine-ends m = none-left (length m) m (omega arith)

-- a machine without a pair stays as it is
pub combine-stays : (m : List SectionCode) → pair m ≡ none → combineSections m ≡ m
unfolding combineSections
combine-stays m e = fuel-none m (length m) e
