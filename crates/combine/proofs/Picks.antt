-- The words of heads, picked out of a table one by one. Assumes nothing.
use Rattle.std.specs.Prelude.{◌≡◌, Bool, true, false, cond, List, [], ◌∷◌, ◌++◌, ℕ, zero, suc, ◌+◌, ◌≤◌, ◌<◌, length, take, drop, get_or, set}
use Rattle.std.proofs.Common.{refl, sym, ap, ap₂, ◌∙◌, arith, length-append, length-set}
use Rattle.std.proofs.lemmas.List.{append-nil}
use Rattle.std.proofs.Math.Seq.{drop-set-lt}
use Rattle.gather.specs.Gather.{pick}
use Rattle.tables.proofs.InPlace.{set-taken, drop-later, head-same}
use Rattle.combine.specs.Counting.{headBy}

module _ {A : Type 0} (h : ℕ → Bool) (f : ℕ → A) where
  -- the numbers in two parts
  pub pick-append : (i k j : ℕ) → pick h f i (k + j) ≡ pick h f i k ++ pick h f (i + k) j
  pick-append i zero j = let z : i + 0 ≡ i = omega arith in let y : 0 + j ≡ j = omega arith in rw (z, y)
  pick-append i (suc k) j = let y : suc k + j ≡ suc (k + j) = omega arith in rw y (go (h i) (pick-append (suc i) k j))
    where
      z : suc i + k ≡ i + suc k
      z = omega arith

      go : (b : Bool) → pick h f (suc i) (k + j) ≡ pick h f (suc i) k ++ pick h f (suc i + k) j → cond b (f i ∷ pick h f (suc i) (k + j)) (pick h f (suc i) (k + j)) ≡ cond b (f i ∷ pick h f (suc i) k) (pick h f (suc i) k) ++ pick h f (i + suc k) j
      go true e = ap (λ (x : List A). f i ∷ x) (e ∙ rw z refl)
      go false e = e ∙ rw z refl

  -- one more number
  pub pick-more : (t : ℕ) → h t ≡ true → pick h f 0 (t + 1) ≡ pick h f 0 t ++ (f t ∷ [])
  pick-more t e = let y : 0 + t ≡ t = omega arith in pick-append 0 t 1 ∙ rw (y, e) refl

  pub pick-same : (t : ℕ) → h t ≡ false → pick h f 0 (t + 1) ≡ pick h f 0 t
  pick-same t e = let y : 0 + t ≡ t = omega arith in pick-append 0 t 1 ∙ rw (y, e) (append-nil (pick h f 0 t))

-- and of functions that are alike on them
pub pick-alike : {A : Type 0} (h : ℕ → Bool) (f g : ℕ → A) (i k : ℕ) → ((u : ℕ) → u < i + k → f u ≡ g u) → pick h f i k ≡ pick h g i k
pick-alike h f g i zero e = refl
pick-alike {A} h f g i (suc k) e = ap₂ (λ (x : A) (r : List A). cond (h i) (x ∷ r) r) (e i (omega arith)) (pick-alike h f g (suc i) k (λ u q. e u (omega arith)))

-- ---- heads moved down

-- the heads below t of the table s stand in front, `left` of them; from t on the words are as they were
pub record Keeping (s s' c : List ℕ) (t left : ℕ) : Type 0 where
  pub front : take left s' ≡ pick (headBy c) (λ u. get_or s u 0) 0 t
  pub count : left ≡ length (pick (headBy c) (λ u. get_or s u 0) 0 t)
  pub back : drop t s' ≡ drop t s
  pub fewer : left ≤ t
  pub size : length s' ≡ length s

module _ (s s' c : List ℕ) (t left : ℕ) (k : Keeping s s' c t left) where
  abbrev H : ℕ → Bool
  H = headBy c

  abbrev F : ℕ → ℕ
  F u = get_or s u 0

  pub keeping-next : get_or s' t 0 ≡ get_or s t 0
  keeping-next = head-same t s' s k.back

  module _ (h : t < length s') where
    pub keeping-more : H t ≡ true → (w : ℕ) → w ≡ get_or s' t 0 → Keeping s (set s' left w) c (t + 1) (left + 1)
    keeping-more e w w-is =
        let p : left < t + 1 = omega (arith, k.fewer) in
        let q : left < length s' = omega (arith, k.fewer) in
        let l : left + 1 ≤ length s' = omega arith in
        let m : left < left + 1 = omega arith in
        let z : t ≤ t + 1 = omega arith in
        record {
          front = set-taken s' left (left + 1) w m l ∙ rw (k.front, w-is, keeping-next) (sym (pick-more H F t e));
          count = sym (ap length (pick-more H F t e) ∙ (length-append (pick H F 0 t) (F t ∷ []) ∙ (let y = k.count in omega arith)));
          back = drop-set-lt (t + 1) s' left w p ∙ drop-later t (t + 1) s' s k.back z;
          fewer = omega (arith, k.fewer);
          size = length-set s' left w ∙ k.size;
        }

    pub keeping-same : H t ≡ false → Keeping s s' c (t + 1) left
    keeping-same e =
        let z : t ≤ t + 1 = omega arith in
        record {
          front = k.front ∙ sym (pick-same H F t e);
          count = k.count ∙ sym (ap length (pick-same H F t e));
          back = drop-later t (t + 1) s' s k.back z;
          fewer = omega (arith, k.fewer);
          size = k.size;
        }
