-- Lists: a run of stores behind another, texts and their places, and the registers of names in a table. Assumes nothing.
use mathlib.Core.Path.{◌≡◌, refl, ap}
use mathlib.Core.List.{List, [], ◌∷◌, ◌++◌, map, append_assoc}
use mathlib.Core.Option.{Option, none, some}
use Prim.Native.Nat.{ℕ, zero, suc, ◌+◌, ◌<◌}
use native.Mathlib.Nat.{add-zero, zero-add, add_assoc}
use native.Mathlib.Omega.{arith}
use lib.ListN.{length, set, get_or, length-append}
use lib.Seq.{sets}
use Rattle.laws.specs.Stores.{sets-sets}
use Rattle.rules.specs.Lowered.{spans, texts}
use Rattle.codegen.specs.Does.{regWord}

-- ---- stores

pub sets-start : {A : Type 0} (vs l ws : List A) → sets (sets l 0 vs) (length vs) ws ≡ sets l 0 (vs ++ ws)
sets-start vs l ws = rw zero-add at (sets-sets vs l 0 ws)

-- one more store
pub sets-more : {A : Type 0} (l t vs : List A) (i k : ℕ) (w : A) → t ≡ sets l i vs → k ≡ i + length vs → set t k w ≡ sets l i (vs ++ (w ∷ []))
sets-more l t vs i k w e h = rw (e, h) (sets-sets vs l i (w ∷ []))

pub length-more : {A : Type 0} (xs : List A) (x : A) → length (xs ++ (x ∷ [])) ≡ length xs + 1
length-more xs x = length-append xs (x ∷ [])

-- ---- texts

pub texts-more : (ts : List (List ℕ)) (t : List ℕ) → texts (ts ++ (t ∷ [])) ≡ texts ts ++ t
unfolding texts
texts-more [] t = nil-right t
  where
    nil-right : (l : List ℕ) → l ++ [] ≡ l
    nil-right [] = refl
    nil-right (x ∷ l) = ap (λ m. x ∷ m) (nil-right l)
texts-more (u ∷ ts) t = rw (texts-more ts t, append_assoc)

pub spans-more : (p : ℕ) (ts : List (List ℕ)) (t : List ℕ) → spans p (ts ++ (t ∷ [])) ≡ spans p ts ++ (record { start = p + length (texts ts); size = length t } ∷ [])
unfolding spans texts
spans-more p [] t = rw add-zero
spans-more p (u ∷ ts) t = rw (spans-more (p + length u) ts t, length-append, add_assoc)

-- ---- names

pub name-read : (l : List (Option ℕ)) (r : List ℕ) (x : ℕ) → x < length l → get_or (map regWord l ++ r) x 0 ≡ regWord (get_or l x none)
name-read [] r x h = absurd (omega arith)
name-read (o ∷ l) r zero h = refl
name-read (o ∷ l) r (suc x) h = name-read l r x (omega arith)

pub name-stored : (l : List (Option ℕ)) (r : List ℕ) (x v : ℕ) → x < length l → set (map regWord l ++ r) x v ≡ map regWord (set l x (some v)) ++ r
unfolding regWord
name-stored [] r x v h = absurd (omega arith)
name-stored (o ∷ l) r zero v h = refl
name-stored (o ∷ l) r (suc x) v h = ap (λ m. regWord o ∷ m) (name-stored l r x v (omega arith))

-- registers that lie below a count, and the next one
pub below-stored : (l : List (Option ℕ)) (x k : ℕ) → ((y v : ℕ) → get_or l y none ≡ some v → v < k) → (y v : ℕ) → get_or (set l x (some k)) y none ≡ some v → v < suc k
below-stored [] x k h y v e = let z = h y v e in omega arith
below-stored (o ∷ l) zero k h zero v e = let z : k ≡ v = cc in omega arith
below-stored (o ∷ l) zero k h (suc y) v e = let z = h (suc y) v e in omega arith
below-stored (o ∷ l) (suc x) k h zero v e = let z = h zero v e in omega arith
below-stored (o ∷ l) (suc x) k h (suc y) v e = below-stored l x k (λ z w q. h (suc z) w q) y v e
