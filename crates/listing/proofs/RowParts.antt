-- The rows of numbers. Assumes nothing.
use mathlib.Core.Path.{◌≡◌, refl, ap, ◌∙◌}
use mathlib.Core.Bool.{Bool, true, false}
use mathlib.Core.List.{List, [], ◌∷◌, ◌++◌, append_assoc, append-nil}
use Prim.Native.Nat.{ℕ, ◌<◌}
use native.Mathlib.Omega.{arith}
use lib.Dec.{eqb}
use Rattle.std.specs.Int.{from_bool}
use lib.IntN.{ℤ}
use lib.ListN.{length}
use borrow.Author.Tests.{eqb-true, eqb-false}
use Rattle.rules.specs.Bits.{isOne}
use Rattle.rules.specs.Constants.{mark}
use Rattle.rules.specs.Word.{Run, wordIns, wordRun}
use Rattle.rules.specs.Tables.{Counts, flag, kindOf, targetOf, successOf}
use Rattle.rules.specs.Listing.{nat, int, hexText, row, refusal}
use Rattle.laws.proofs.Words.{wordRun-small}
use Rattle.listing.specs.Rows.{countsRow, textRow, instrRow, sectionRow}
use Rattle.text.specs.Numbers.{nums}
use Rattle.text.proofs.Writes.{Are}

pub counts-row : (u : Counts) → row 77 (nums (u.lines ∷ u.sections ∷ u.numbers ∷ u.strings ∷ u.values ∷ [])) ≡ countsRow u
unfolding countsRow nums
counts-row u = ap (row 77) (simp (append_assoc, append-nil))

pub fields-row : (l : ℕ) (fs : List ℕ) → Are ((l ∷ []) ∷ fs ∷ (10 ∷ []) ∷ []) (row l fs)
unfolding row
fields-row l fs = record { flat-is = simp append-nil }

pub text-row : (i : ℕ) (s : List ℕ) → Are ((84 ∷ []) ∷ nat i ∷ nat (length s) ∷ hexText s ∷ (10 ∷ []) ∷ []) (textRow i s)
unfolding row textRow
text-row i s = record { flat-is = simp (append_assoc, append-nil) }

pub number-row : (i : ℕ) (z : ℤ) → Are ((78 ∷ []) ∷ nat i ∷ int z ∷ (10 ∷ []) ∷ []) (row 78 (nat i ++ int z))
unfolding row
number-row i z = record { flat-is = simp (append_assoc, append-nil) }

pub name_row : (i v : ℕ) → row 86 (nums (i ∷ v ∷ [])) ≡ row 86 (nat i ++ nat v)
unfolding nums
name_row i v = ap (row 86) (simp append-nil)

pub refusal_row : (n : ℕ) → row 82 (nums (n ∷ [])) ≡ refusal n
unfolding refusal nums
refusal_row n = ap (row 82) (append-nil (nat n))

pub instr_row : (w : ℕ) {o a b c : ℕ} → o ≡ (wordIns w).op → a ≡ (wordIns w).fst → b ≡ (wordIns w).snd → c ≡ (wordIns w).thd → row 73 (nums (o ∷ a ∷ b ∷ c ∷ [])) ≡ instrRow w
unfolding instrRow nums
instr_row w p q r s = rw (p, q, r, s) (ap (row 73) (simp (append_assoc, append-nil)))

-- ---- a section's successor says its kind and its target

module _ (r : Run) (low : r.kind < 2) where
  by-kind : (b : Bool) → isOne r.kind ≡ b → (t : Bool) → eqb r.target mark ≡ t → (r.kind ≡ kindOf (successOf r)) × (r.target ≡ targetOf (successOf r))
  unfolding successOf kindOf targetOf isOne
  by-kind true e t f = (rw (e, successOf) (eqb-true _ _ e), rw (e, successOf))
  by-kind false e true f = (rw (e, f, successOf) (let n = eqb-false r.kind 1 e in zero-is n), rw (e, f, successOf) (eqb-true _ _ f))
    where
      zero-is : (r.kind ≡ 1 → ⊥) → r.kind ≡ 0
      zero-is n = omega arith
  by-kind false e false f = (rw (e, f, successOf) (let n = eqb-false r.kind 1 e in zero-is n), rw (e, f, successOf))
    where
      zero-is : (r.kind ≡ 1 → ⊥) → r.kind ≡ 0
      zero-is n = omega arith

  success-says : (r.kind ≡ kindOf (successOf r)) × (r.target ≡ targetOf (successOf r))
  success-says = by-kind _ refl _ refl

flag-is : (b : Bool) → from_bool b ≡ flag b
unfolding flag
flag-is true = refl
flag-is false = refl

pub section_row : (i w : ℕ) {l : Bool} {s k t n : ℕ} → s ≡ from_bool l → l ≡ isOne (wordRun w).lineStart → k ≡ (wordRun w).kind → t ≡ (wordRun w).target → n ≡ (wordRun w).count →
    row 83 (nums (i ∷ s ∷ k ∷ t ∷ n ∷ [])) ≡ sectionRow i w
unfolding sectionRow nums
section_row i w {l} {s} {k} {t} {n} x y p q r =
    let z = success-says (wordRun w) (wordRun-small w).1.0 in
    let p' : k ≡ kindOf (successOf (wordRun w)) = p ∙ z.0 in
    let q' : t ≡ targetOf (successOf (wordRun w)) = q ∙ z.1 in
    rw (x ∙ flag-is l, y, p', q', r) (ap (row 83) (simp (append_assoc, append-nil)))
