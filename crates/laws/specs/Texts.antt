-- What a file spells, and strings in a pool. Assumes nothing.
use Rattle.std.specs.Prelude.{◌≡◌, refl, List, [], ◌∷◌, ℕ, zero, suc, ◌+◌, ◌*◌, ◌^◌, ◌<◌, length}
use Rattle.std.proofs.Common.{ap, arith}
use native.Mathlib.Nat.{pow-succ'}
use Rattle.rules.specs.Bits.{bit, spelled}
use Rattle.rules.specs.Lowered.{spans}

pub bit-lt : (s : List ℕ) (i : ℕ) → bit s i < 2
unfolding bit
bit-lt s i = omega arith

pub spelled-lt : (s : List ℕ) (w p : ℕ) → spelled s w p < 2 ^ w
unfolding spelled
spelled-lt s zero p = omega arith
spelled-lt s (suc w) p = rw pow-succ' (scaled (bit s p) (2 ^ w) (spelled s w (suc p)) (bit-lt s p) (spelled-lt s w (suc p)))
  where
    scaled : (b x y : ℕ) → b < 2 → y < x → b * x + y < 2 * x
    scaled zero x y h k = omega arith
    scaled (suc zero) x y h k = omega arith
    scaled (suc (suc b)) x y h k = absurd (omega arith)

-- each string has its word
pub length-spans : (p : ℕ) (ts : List (List ℕ)) → length (spans p ts) ≡ length ts
unfolding spans
length-spans p [] = refl
length-spans p (t ∷ ts) = ap suc (length-spans (p + length t) ts)
