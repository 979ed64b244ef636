-- Where joins end: a machine without a pair is gathered already; the lowest pair does not join the lowest of a ring behind another section; where
-- successors lead ahead (Forward) there is no ring.
use Rattle.std.specs.Prelude.{◌≡◌, refl, ◌⊎◌, Bool, true, false, cond, not, List, [], ◌∷◌, ℕ, zero, suc, ◌+◌, ◌<◌, length, get_or}
use Rattle.std.proofs.Common.{sym, ap, ap₂, ◌∙◌, inl, inr, arith}
use Rattle.std.proofs.Math.Option.{Option, none, some, none-ne-some}
use Rattle.std.proofs.lemmas.Bool.{false_from_ne_true}
use Rattle.rules.specs.Combine.{next, pair}
use Rattle.rules.specs.Machine.{SectionCode, absent}
use Rattle.joins.specs.Ahead.{Forward, pair-up}
use Rattle.joins.specs.Pairs.{Pair, to-pair, of-pair, Low, none-low}
use Rattle.gather.proofs.Contract.{chain-none}
use Rattle.gather.specs.Gather.{lowest, Ringless, link, linked, pick, head, newNumber, whole, gather, chainOf}
use Rattle.gather.proofs.Join.{next-in, next-only}
use Rattle.gather.proofs.Numbers.{ren-self}
use Rattle.gather.proofs.Rings.{Way, to-round, one, more}

module _ (m : List SectionCode) where
  at-zero : (t : ℕ) → 0 + t ≡ t
  at-zero t = omega arith

  -- with no pair left, no section may take one in
  pub pair-none : pair m ≡ none → (u : ℕ) → next m u ≡ none
  pair-none e u = go (next m u) refl
    where
      go : (o : Option ℕ) → next m u ≡ o → next m u ≡ none
      go none q = q
      go (some v) q = none-low m e u (next-in m u v q)

  -- ---- the lowest pair's second is not the lowest of a ring

  way-first : (t u w : ℕ) → Way m t u w → (x : ℕ) × (next m u ≡ some x)
  way-first t u w (one {w = x} e) = (x, e)
  way-first t u w (more {v = x} e h r) = (x, e)

  way-last : (t u w : ℕ) → Way m t u w → (x : ℕ) × ((x ≡ u) ⊎ (t < x)) × (next m x ≡ some w)
  way-last t u w (one e) = (u, inl refl, e)
  way-last t u w (more {v = v} e h r) = let (x, a, b) = way-last t v w r in (x, inr (go x a), b)
    where
      go : (x : ℕ) → (x ≡ v) ⊎ (t < x) → t < x
      go x (inl a) = omega arith
      go x (inr a) = a

  pub lowest-not : (i j : ℕ) → Pair m i j → Low m i → lowest m j ≡ false
  lowest-not i j p low = false_from_ne_true (lowest m j) (λ e. never (to-round m j e))
    where
      never : Way m j j j → ⊥
      never y = let (x, a, b) = way-last j j j y in at x a (next-only m x i j b (of-pair m i j p))
        where
          at : (x : ℕ) → (x ≡ j) ⊎ (j < x) → x ≡ i → ⊥
          at x (inl a) z = p.apart (sym z ∙ a)
          at x (inr a) z = let (v, q) = way-first j j j y in none-ne-some v (sym (low j (omega arith)) ∙ q)

  -- ---- no links

  module _ (link-none : (u : ℕ) → link m u ≡ none) where
    linked-none : (k t : ℕ) → linked (link m) k t ≡ false
    linked-none zero t = refl
    linked-none (suc k) t = rw (link-none k, linked-none k t)

    all-heads : (t : ℕ) → head m t ≡ true
    all-heads t = ap not (linked-none (length m) t)

    rank-self : (t : ℕ) → newNumber m t ≡ t
    rank-self zero = refl
    rank-self (suc t) = ap (λ (b : Bool). cond b (suc (newNumber m t)) (newNumber m t)) (all-heads t) ∙ ap suc (rank-self t)

    whole-self : (t : ℕ) → whole m t ≡ get_or m t absent
    whole-self t = ren-self (newNumber m) rank-self (chainOf m t) ∙ chain-none (link m) (λ u. get_or m u absent) (length m) t (link-none t)

    pick-all : (i : ℕ) (ss : List SectionCode) → ((t : ℕ) → get_or ss t absent ≡ get_or m (i + t) absent) → pick (head m) (whole m) i (length ss) ≡ ss
    pick-all i [] g = refl
    pick-all i (s ∷ ss) g =
        ap (λ (b : Bool). cond b (whole m i ∷ pick (head m) (whole m) (suc i) (length ss)) (pick (head m) (whole m) (suc i) (length ss))) (all-heads i)
        ∙ ap₂ (λ (x : SectionCode) (y : List SectionCode). x ∷ y) (whole-self i ∙ sym (g 0 ∙ ap (λ (n : ℕ). get_or m n absent) (let z : i + 0 ≡ i = omega arith in z))) (pick-all (suc i) ss (λ t. g (suc t) ∙ ap (λ (n : ℕ). get_or m n absent) (shift t)))
      where
        shift : (t : ℕ) → i + suc t ≡ suc i + t
        shift t = omega arith

    pub gather-self : gather m ≡ m
    unfolding gather
    gather-self = pick-all 0 m (λ t. ap (λ (n : ℕ). get_or m n absent) (sym (at-zero t)))

-- ---- no successors back

module _ (m : List SectionCode) (h : Forward m) where
  -- each section that may be taken in stands above the one that may take it
  way-up : (t u w : ℕ) → Way m t u w → u < w
  way-up t u w (one e) = (pair-up m h u w (to-pair m u w e)).0
  way-up t u w (more {v = v} e k r) = let a = (pair-up m h u v (to-pair m u v e)).0 in let b = way-up t v w r in omega arith

  -- so there is no ring
  pub forward-ringless : Ringless m
  forward-ringless t = false_from_ne_true (lowest m t) (λ e. let z = way-up t t t (to-round m t e) in omega arith)
