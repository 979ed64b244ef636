-- Single words that clean makes anew, and the numbers that they carry. Assumes nothing.
use mathlib.Core.Path.{◌≡◌, ◌∙◌}
use mathlib.Core.Bool.{Bool, true, false, cond}
use mathlib.Core.List.{List, map}
use Prim.Native.Nat.{ℕ, zero, suc, pred, ◌<◌}
use native.Mathlib.Omega.{arith}
use lib.ListN.{length, get_or, get_or-map, length-map}
use lib.Dec.{ltb}
use Rattle.rules.specs.Bits.{isOne}
use Rattle.rules.specs.Constants.{mark}
use Rattle.rules.specs.Word.{wordRun, runWord}
use Rattle.rules.specs.Machine.{SectionOrLine}
use Rattle.rules.specs.Tables.{successOf, runOf}
use Rattle.laws.proofs.Words.{wordRun-small}
use Rattle.clean.specs.Pass.{firstOf, newNumber, packedWord}

pub first_at : (ss : List ℕ) (t : ℕ) → get_or (map firstOf ss) t 0 ≡ (wordRun (get_or ss t 0)).first
unfolding firstOf wordRun
first_at ss t = get_or-map firstOf ss t 0

pub new_number_is : (ss : List ℕ) (k t : ℕ) → newNumber (map firstOf ss) k t ≡ pred (cond (ltb t (length ss)) (wordRun (get_or ss t 0)).first k)
unfolding newNumber
new_number_is ss k t = rw (length-map ss firstOf, first_at ss t)

pub number-small : (ss : List ℕ) (k : ℕ) → k < 65536 → (t : ℕ) → newNumber (map firstOf ss) k t < mark
number-small ss k h t = rw (new_number_is ss k t) (by (ltb t (length ss)))
  where
    less : (m : ℕ) → m < 65536 → pred m < mark
    less zero l = omega arith
    less (suc m) l = omega arith

    by : (b : Bool) → pred (cond b (wordRun (get_or ss t 0)).first k) < mark
    by true = less (wordRun (get_or ss t 0)).first (wordRun-small (get_or ss t 0)).1.1.1.0
    by false = less k h

pub packed-word : (k w : ℕ) (l : Bool) (s : SectionOrLine) (c r : ℕ) → r ≡ runWord (runOf l s k c) → l ≡ isOne (wordRun w).lineStart → s ≡ successOf (wordRun w) → c ≡ (wordRun w).count → r ≡ packedWord k w
unfolding packedWord
packed-word k w l s c r e p q d = e ∙ rw (p, q, d)
