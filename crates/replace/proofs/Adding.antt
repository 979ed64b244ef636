-- What a replacement adds, told of words: the loop that counts, and the registers' counts afterwards. Assumes nothing.
use mathlib.Core.Path.{◌≡◌, refl, ap}
use mathlib.Core.List.{List, [], ◌∷◌, ◌++◌}
use Prim.Native.Nat.{ℕ, ◌+◌, ◌≤◌, ◌<◌}
use native.Mathlib.Omega.{arith}
use lib.ListN.{length, drop, get_or}
use Rattle.std.proofs.Math.ListN.{drop_of_length-le}
use Rattle.std.proofs.lemmas.List.{drop_more}
use Rattle.rules.specs.Word.{wordIns}
use Rattle.rules.specs.Replace.{ruleOf}
use Rattle.words.specs.Told.{replacedOf}
use Rattle.words.specs.declared.instr.Replaced.{Replaced}
use Rattle.replace.specs.Pass.{numbersBy, stringsBy, numberOf, stringOf, sums}

-- one word, by the answer v of the code
module _ (w : ℕ) (v : Replaced) (told : v ≡ replacedOf (ruleOf (wordIns w)) (wordIns w)) where
  pub numbers-are : numbersBy v ≡ numberOf w
  unfolding numberOf
  numbers-are = ap numbersBy told

  pub strings-are : stringsBy v ≡ stringOf w
  unfolding stringOf
  strings-are = ap stringsBy told

-- ---- sums

pub sums-nil : (f : ℕ → ℕ) → sums f [] ≡ 0
unfolding sums
sums-nil f = refl

pub sums-cons : (f : ℕ → ℕ) (w : ℕ) (ws : List ℕ) → sums f (w ∷ ws) ≡ f w + sums f ws
unfolding sums
sums-cons f w ws = refl

pub sums-append : (f : ℕ → ℕ) (us vs : List ℕ) → sums f (us ++ vs) ≡ sums f us + sums f vs
sums-append f [] vs = rw sums-nil (omega arith)
sums-append f (u ∷ us) vs = rw (sums-cons f u (us ++ vs), sums-cons f u us, sums-append f us vs) (omega arith)

module _ (f : ℕ → ℕ) (xs : List ℕ) (i : ℕ) where
  pub sums_end : length xs ≤ i → sums f (drop i xs) ≡ 0
  sums_end h = rw (drop_of_length-le xs h) (sums-nil f)

  pub sums_at : i < length xs → sums f (drop i xs) ≡ f (get_or xs i 0) + sums f (drop (i + 1) xs)
  sums_at h = rw (drop_more xs i 0 h) (sums-cons f _ _)
