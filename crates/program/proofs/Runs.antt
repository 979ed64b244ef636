-- Runs of stores that do not meet. Assumes nothing.
use mathlib.Core.Path.{◌≡◌, refl, sym, ap, ◌∙◌}
use mathlib.Core.List.{List, [], ◌∷◌, ◌++◌}
use Prim.Native.Nat.{ℕ, zero, suc, ◌+◌, ◌≤◌, ◌<◌}
use native.Mathlib.Omega.{arith}
use lib.ListN.{length, set}
use lib.Seq.{sets}
use Rattle.laws.specs.Stores.{sets-sets}

module _ {A : Type 0} where
  -- stores at two places change places
  pub set-swap : (l : List A) (i k : ℕ) (x y : A) → i < k → set (set l i x) k y ≡ set (set l k y) i x
  set-swap [] i k x y h = refl
  set-swap (z ∷ l) i zero x y h = absurd (omega arith)
  set-swap (z ∷ l) zero (suc k) x y h = refl
  set-swap (z ∷ l) (suc i) (suc k) x y h = ap (λ m. z ∷ m) (set-swap l i k x y (omega arith))

  -- a store before a run
  set-run : (vs l : List A) (i k : ℕ) (x : A) → i < k → sets (set l i x) k vs ≡ set (sets l k vs) i x
  set-run [] l i k x h = refl
  set-run (v ∷ vs) l i k x h = rw (set-swap l i k x v h) (set-run vs (set l k v) i (suc k) x (omega arith))

  -- a run before a run
  pub run-run : (us l : List A) (a b : ℕ) (vs : List A) → a + length us ≤ b → sets (sets l a us) b vs ≡ sets (sets l b vs) a us
  run-run [] l a b vs h = refl
  run-run (u ∷ us) l a b vs h = run-run us (set l a u) (suc a) b vs (omega arith) ∙ ap (λ m. sets m (suc a) us) (set-run vs l a b u (omega arith))

  -- two runs, and each goes on behind its end
  pub two-runs : (l : List A) (a b : ℕ) (u u' v v' : List A) → a + length u + length u' ≤ b → sets (sets (sets (sets l a u) b v) (a + length u) u') (b + length v) v' ≡ sets (sets l a (u ++ u')) b (v ++ v')
  two-runs l a b u u' v v' h =
      ap (λ m. sets m (b + length v) v') (sym (run-run u' (sets l a u) (a + length u) b v h) ∙ ap (λ m. sets m b v) (sets-sets u l a u'))
      ∙ sets-sets v (sets l a (u ++ u')) b v'
