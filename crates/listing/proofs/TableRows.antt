-- The rows of a table from a word on: none behind the last, else that word's and those behind it. Assumes nothing.
use mathlib.Core.Path.{◌≡◌}
use mathlib.Core.List.{List, [], ◌∷◌, ◌++◌, map, append-nil}
use Prim.Native.Nat.{ℕ, ◌+◌, ◌-◌, ◌≤◌, ◌<◌}
use native.Mathlib.Numerals.{add-one}
use native.Mathlib.Nat.{add-sub_cancel_left}
use native.Mathlib.Omega.{arith}
use lib.IntN.{ℤ, pos}
use lib.ListN.{length, take, drop, get_or, length-drop}
use lib.Seq.{drop-cons, drop-length, length-take-le}
use mir.Syntax.{w64}
use mir.Val.{SFits, to_z, of_z}
use mir.ValLaws.{to_z-of_z}
use borrow.Author.Tests.{eq-eqb, ne_eqb}
use Rattle.rules.specs.Constants.{mark}
use Rattle.rules.specs.Word.{wordIns, wordSpan}
use Rattle.rules.specs.Listing.{nat, int, row, rowsN, rowsT, rowsV, rowsI}
use Rattle.listing.specs.Rows.{textRow, instrRow}
use Rattle.text.proofs.Writes.{Are}

-- ---- numbers

module _ (i : ℕ) (t : List ℤ) where
  pub numbers-none : length t ≤ i → i ≤ length t → Are [] (rowsN i (drop i t))
  unfolding rowsN
  numbers-none a b = let e : i ≡ length t = omega arith in record { flat-is = rw (e, drop-length) }

  -- a signed number goes by its bits
  pub numbers-more : i < length t → SFits w64 (get_or t i (pos 0)) → Are (row 78 (nat i ++ int (to_z w64 (of_z w64 (get_or t i (pos 0))))) ∷ rowsN (i + 1) (drop (i + 1) t) ∷ []) (rowsN i (drop i t))
  unfolding rowsN
  numbers-more a f = record { flat-is = rw (to_z-of_z w64 (get_or t i (pos 0)) f, drop-cons t i (pos 0) a, add-one, append-nil) }

-- ---- names

module _ (i : ℕ) (t : List ℕ) where
  pub names-none : length t ≤ i → i ≤ length t → Are [] (rowsV i (drop i t))
  unfolding rowsV
  names-none a b = let e : i ≡ length t = omega arith in record { flat-is = rw (e, drop-length) }

  module _ (a : i < length t) where
    pub names-mark : get_or t i 0 ≡ mark → Are (rowsV (i + 1) (drop (i + 1) t) ∷ []) (rowsV i (drop i t))
    unfolding rowsV
    names-mark e = record { flat-is = rw (drop-cons t i 0 a, add-one, append-nil, rowsV, eq-eqb (get_or t i 0) mark e) }

    pub names-more : (get_or t i 0 ≡ mark → ⊥) → Are (row 86 (nat i ++ nat (get_or t i 0)) ∷ rowsV (i + 1) (drop (i + 1) t) ∷ []) (rowsV i (drop i t))
    unfolding rowsV
    names-more e = record { flat-is = rw (drop-cons t i 0 a, add-one, append-nil, rowsV, ne_eqb (get_or t i 0) mark e) }

-- ---- instructions

module _ (i : ℕ) (t : List ℕ) where
  pub instrs-none : length t ≤ i → i ≤ length t → Are [] (rowsI (map wordIns (drop i t)))
  unfolding rowsI
  instrs-none a b = let e : i ≡ length t = omega arith in record { flat-is = rw (e, drop-length) }

  pub instrs-more : i < length t → Are (instrRow (get_or t i 0) ∷ rowsI (map wordIns (drop (i + 1) t)) ∷ []) (rowsI (map wordIns (drop i t)))
  unfolding rowsI instrRow
  instrs-more a = record { flat-is = rw (drop-cons t i 0 a, add-one, append-nil) }

-- ---- texts

module _ (pool : List ℕ) (i : ℕ) (t : List ℕ) where
  pub texts-none : length t ≤ i → i ≤ length t → Are [] (rowsT pool i (map wordSpan (drop i t)))
  unfolding rowsT
  texts-none a b = let e : i ≡ length t = omega arith in record { flat-is = rw (e, drop-length) }

  part-size : (s l : ℕ) → s + l ≤ length pool → length (take l (drop s pool)) ≡ l
  part-size s l h = length-take-le l (drop s pool) (simp length-drop (omega arith))

  -- the word's start and length are s and l
  pub texts-more : i < length t → (s l : ℕ) → s ≡ (wordSpan (get_or t i 0)).start → l ≡ (wordSpan (get_or t i 0)).size → s + l ≤ length pool →
      Are (textRow i (take (s + l - s) (drop s pool)) ∷ rowsT pool (i + 1) (map wordSpan (drop (i + 1) t)) ∷ []) (rowsT pool i (map wordSpan (drop i t)))
  unfolding rowsT textRow
  texts-more a s l p q h = record { flat-is = rw (drop-cons t i 0 a, add-one, append-nil, add-sub_cancel_left, part-size s l h, p, q) }
