-- The place of a string register's text: inside the pool, and short. Assumes nothing.
use mathlib.Core.Path.{◌≡◌, refl, sym, ap₂, subst}
use mathlib.Core.Bool.{Bool, true, false, cond, ◌&&◌}
use mathlib.Core.List.{List, [], ◌∷◌}
use mathlib.Core.Option.{Option, none, some}
use Prim.Native.Nat.{ℕ, zero, suc, ◌+◌, ◌<◌, ◌≤◌}
use native.Mathlib.Omega.{arith}
use lib.Dec.{eqb, leb}
use lib.ListN.{length, get_or, get_elem?}
use borrow.Author.Tests.{leb-true}
use Rattle.rules.specs.Word.{Span, wordSpan, spanSpare}
use Rattle.rules.specs.Operations.{stringWord, textSpan}

pub at_some : (l : List ℕ) (n : ℕ) → n < length l → some (get_or l n 0) ≡ get_elem? l n
at_some [] n h = absurd (omega arith)
at_some (x ∷ l) zero h = refl
at_some (x ∷ l) (suc n) h = at_some l n (omega arith)

abbrev spanOf : ℕ → ℕ → Span
spanOf s n = record { start = s; size = n }

module _ (strings pool : List ℕ) (r : ℕ) where
  span-none : none ≡ stringWord strings r → spanOf (length pool) 0 ≡ textSpan strings pool r
  unfolding textSpan
  span-none e = sym (rw (← e, textSpan))

  span-some : (w : ℕ) → some w ≡ stringWord strings r → (t : Bool) → t ≡ (eqb (spanSpare w) 0 && leb ((wordSpan w).start + (wordSpan w).size) (length pool)) → cond t (wordSpan w) (spanOf (length pool) 0) ≡ textSpan strings pool r
  unfolding textSpan
  span-some w e true f = sym (rw (← e, ← f, textSpan))
  span-some w e false f = sym (rw (← e, ← f, textSpan))

  -- what holds of the pool's end, and of every word's place in the pool, holds of a text's place
  module _ (P : Span → Type 0) (none_is : P (spanOf (length pool) 0)) (some_is : (w : ℕ) → (wordSpan w).start + (wordSpan w).size ≤ length pool → P (wordSpan w)) where
    word-by : (w : ℕ) → some w ≡ stringWord strings r → P (textSpan strings pool r)
    word-by w e = go (leb ((wordSpan w).start + (wordSpan w).size) (length pool)) refl (eqb (spanSpare w) 0) refl
      where
        bad : false ≡ (eqb (spanSpare w) 0 && leb ((wordSpan w).start + (wordSpan w).size) (length pool)) → P (textSpan strings pool r)
        bad f = subst P (span-some w e false f) none_is

        go : (b : Bool) → leb ((wordSpan w).start + (wordSpan w).size) (length pool) ≡ b → (a : Bool) → eqb (spanSpare w) 0 ≡ a → P (textSpan strings pool r)
        go true p true q = subst P (span-some w e true (sym (ap₂ (λ (x y : Bool). x && y) q p))) (some_is w (leb-true _ _ p))
        go true p false q = bad (sym (ap₂ (λ (x y : Bool). x && y) q p))
        go false p true q = bad (sym (ap₂ (λ (x y : Bool). x && y) q p))
        go false p false q = bad (sym (ap₂ (λ (x y : Bool). x && y) q p))

    span-by : P (textSpan strings pool r)
    span-by = go (stringWord strings r) refl
      where
        go : (x : Option ℕ) → stringWord strings r ≡ x → P (textSpan strings pool r)
        go none e = subst P (span-none (sym e)) none_is
        go (some w) e = word-by w (sym e)

  -- it lies in the pool, and is short
  pub place_inside : (s n : ℕ) → spanOf s n ≡ textSpan strings pool r → s + n ≤ length pool
  place_inside s n e = let P : Span → Type 0 = λ z. z.start + z.size ≤ length pool in subst P (sym e) (span-by P (omega arith) (λ w h. h))
