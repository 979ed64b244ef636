-- Successors ahead: where no successor that is no line start lies below its section, no join changes that. What 15 does not refuse is such a machine.
use Rattle.std.specs.Prelude.{◌≡◌, refl, Bool, true, false, ◌||◌, List, [], ◌∷◌, ℕ, zero, suc, ◌+◌, ◌≤◌, ◌<◌, leb, length, get_or}
use Rattle.std.proofs.Common.{sym, ap, ◌∙◌, arith}
use Rattle.std.proofs.lemmas.Bool.{false≢true}
use Rattle.std.proofs.Math.Option.{Option, none, some}
use Rattle.std.proofs.Math.ListN.{get_elem?}
use borrow.Author.Tests.{leb-true}
use Rattle.rules.specs.Instr.{fall}
use Rattle.rules.specs.Machine.{SectionOrLine, unfixed, section, line, SectionCode, absent}
use Rattle.rules.specs.Clean.{renNext}
use Rattle.rules.specs.Combine.{combineAt}
use Rattle.rules.specs.Operations.{nextAhead, allAhead}
use Rattle.laws.specs.Lists.{at-elem, at-past}
use Rattle.joins.specs.Numbers.{fall-grows, rises}
use Rattle.joins.specs.Pairs.{Pair}
use Rattle.joins.specs.Joins.{Taken, Stands, joint, other, stands, second-in, at-join, start-join, next-not}

-- no successor that is no line start lies below its section
abbrev pub Forward : List SectionCode → Type 0
Forward m = (i j : ℕ) → (get_or m i absent).success ≡ section j → (get_or m j absent).lineStart ≡ false → i ≤ j

-- a pair's second stands above its first
pub pair-up : (m : List SectionCode) → Forward m → (i j : ℕ) → Pair m i j → (i < j) × (j < length m)
pair-up m h i j pr = (let k = h i j pr.succ pr.inner in omega (arith, pr.apart), second-in m i j pr)

-- ---- what a join keeps

module _ (m : List SectionCode) (i j : ℕ) (pr : Pair m i j) where
  abbrev T : List SectionCode
  T = Taken m i j pr

  -- the section that a renumbered successor was
  was : (x : SectionOrLine) (w : ℕ) → renNext (fall j) x ≡ section w → (v : ℕ) × (x ≡ section v) × (fall j v ≡ w)
  was unfixed w e = let z : ◌≡◌ {A = ℕ} 0 1 = cc in absurd (omega arith)
  was (section v) w e = (v, refl, cc)
  was (line r) w e = let z : ◌≡◌ {A = ℕ} 0 1 = cc in absurd (omega arith)

  before : Forward m → (t v : ℕ) → (get_or T t absent).success ≡ section v → (get_or m v absent).lineStart ≡ false → fall j t ≤ fall j v
  before h t v e s = fall-grows j t v (go (stands m i j pr t))
    where
      go : Stands m i j pr t → t ≤ v
      go (joint f q) = let k = h j v (ap (λ (s : SectionCode). s.success) (sym q) ∙ e) s in omega (arith, h i j pr.succ pr.inner)
      go (other f q) = h t v (ap (λ (s : SectionCode). s.success) (sym q) ∙ e) s

  pub forward-step : Forward m → Forward (combineAt m i j)
  forward-step h t w e s =
      let r = rises j t in
      let x = (get_or T r.from absent).success in
      let a : renNext (fall j) x ≡ section w = sym (ap (λ (s : SectionCode). s.success) (ap (λ (n : ℕ). get_or (combineAt m i j) n absent) (sym r.falls) ∙ at-join m i j pr r.from r.other)) ∙ e in
      let b = was x w a in
      let n = next-not m i j pr r.from b.0 r.other b.1 in
      let o : (get_or m b.0 absent).lineStart ≡ false = sym (start-join m i j pr b.0 n) ∙ (ap (λ (n : ℕ). (get_or (combineAt m i j) n absent).lineStart) b.2 ∙ s) in
      let k = before h r.from b.0 b.1 o in
      omega (arith, k, r.falls, b.2)

-- ---- 15

module _ (m : List SectionCode) where
  ahead-cons : (i : ℕ) (s : SectionCode) (ss : List SectionCode) → allAhead m i (s ∷ ss) ≡ true → (nextAhead m i s.success ≡ true) × (allAhead m (suc i) ss ≡ true)
  unfolding allAhead
  ahead-cons i s ss e = go (nextAhead m i s.success) refl e
    where
      go : (b : Bool) → nextAhead m i s.success ≡ b → elim b as (λ z. Bool) [ false ↦ false | true ↦ allAhead m (suc i) ss ] ≡ true → (nextAhead m i s.success ≡ true) × (allAhead m (suc i) ss ≡ true)
      go true p q = (p, q)
      go false p q = absurd (false≢true q)

  ahead-at : (k : ℕ) (ss : List SectionCode) → allAhead m k ss ≡ true → (t j : ℕ) → (get_or ss t absent).success ≡ section j → nextAhead m (k + t) (section j) ≡ true
  ahead-at k [] h t j e = let z : ◌≡◌ {A = ℕ} 0 1 = cc in absurd (omega arith)
  ahead-at k (s ∷ ss) h zero j e = let z : k + 0 ≡ k = omega arith in rw (z, ← e) (ahead-cons k s ss h).0
  ahead-at k (s ∷ ss) h (suc t) j e = ap (λ (x : ℕ). nextAhead m x (section j)) (shift t) ∙ ahead-at (suc k) ss (ahead-cons k s ss h).1 t j e
    where
      shift : (t : ℕ) → k + suc t ≡ suc k + t
      shift t = omega arith

  above : (i j : ℕ) → nextAhead m i (section j) ≡ true → (get_or m j absent).lineStart ≡ false → i ≤ j
  unfolding nextAhead
  above i j h s = go (get_elem? m j) refl h
    where
      go : (x : Option SectionCode) → get_elem? m j ≡ x → elim x as (λ z. Bool) [ none ↦ true | some s ↦ s.lineStart || leb i j ] ≡ true → i ≤ j
      go none p q = absurd (false≢true (sym s ∙ ap (λ (s : SectionCode). s.lineStart) (at-past m j absent p)))
      go (some y) p q = leb-true i j (or y.lineStart (leb i j) (sym (ap (λ (s : SectionCode). s.lineStart) (at-elem m j absent y p)) ∙ s) q)
        where
          or : (a b : Bool) → a ≡ false → (a || b) ≡ true → b ≡ true
          or true b p q = absurd (false≢true (sym p))
          or false b p q = q

  pub forward : allAhead m 0 m ≡ true → Forward m
  forward h i j e s = let z : 0 + i ≡ i = omega arith in above i j (rw z at (ahead-at 0 m h i j e)) s
