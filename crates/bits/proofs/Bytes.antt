-- A field read by whole bytes: eight bits lie in two bytes, and a field is its parts end to end. Assumes nothing.
use mathlib.Core.Path.{◌≡◌, refl, sym, subst, ◌∙◌}
use mathlib.Core.Bool.{Bool, true, false}
use mathlib.Core.List.{List}
use Prim.Native.Nat.{ℕ, zero, suc, ◌+◌, ◌-◌, ◌*◌, ◌/◌, ◌%◌, ◌^◌, ◌<◌, ◌≤◌}
use native.Mathlib.Omega.{arith}
use native.Mathlib.Nat.{add-mul, one-mul, lt_of_lt_of_le}
use lib.Bits.{bit_and, and_mask}
use lib.ListN.{get_or}
use lib.Dec.{leb}
use lib.Pow.{pow-add, pow_mono, shr-shr, mod-pow-add, shl_exact, high, low, field, shr_mod}
use borrow.Author.Tests.{leb-true, leb-false}
use Rattle.rules.specs.Constants.{byteBits}
use Rattle.rules.specs.Bits.{bit, spelled}
use Rattle.laws.specs.Texts.{bit-lt, spelled-lt}

-- k bits, then n more
pub spelled-append : (s : List ℕ) (k n p : ℕ) → spelled s (k + n) p ≡ spelled s k p * 2 ^ n + spelled s n (p + k)
unfolding spelled
spelled-append s zero n p =
    let e : p + 0 ≡ p = omega arith in
    let f : 0 + n ≡ n = omega arith in
    rw (e, f) (omega arith)
spelled-append s (suc k) n p =
    let e : p + suc k ≡ suc p + k = omega arith in
    let f : suc k + n ≡ suc (k + n) = omega arith in
    rw (e, f) (joined (bit s p) (2 ^ k) (2 ^ n) (spelled s k (suc p)) (spelled s n (suc p + k)) (2 ^ (k + n)) (spelled s (k + n) (suc p)) (bit-lt s p) (pow-add 2 k n) (spelled-append s k n (suc p)))
  where
    joined : (b x y z u xy m : ℕ) → b < 2 → xy ≡ x * y → m ≡ z * y + u → b * xy + m ≡ (b * x + z) * y + u
    joined zero x y z u xy m h e f = omega arith
    joined (suc zero) x y z u xy m h e f = rw (add-mul (1 * x) z y) (omega arith)
    joined (suc (suc b)) x y z u xy m h e f = absurd (omega arith)

-- n bits that lie within the byte where they begin
pub spelled-part : (s : List ℕ) (n p : ℕ) → p % byteBits + n ≤ byteBits → spelled s n p ≡ get_or s (p / byteBits) 0 / 2 ^ (byteBits - p % byteBits - n) % 2 ^ n
unfolding spelled bit
spelled-part s zero p h = omega arith
spelled-part s (suc zero) p h =
    let e : byteBits - p % byteBits - 1 ≡ byteBits - 1 - p % byteBits = omega arith in
    rw e (omega arith)
spelled-part s (suc (suc n)) p h =
    let a : suc p % byteBits ≡ p % byteBits + 1 = omega arith in
    let b : suc p / byteBits ≡ p / byteBits = omega arith in
    let i = spelled-part s (suc n) (suc p) (omega arith) in
    let c : byteBits - (p % byteBits + 1) - suc n ≡ byteBits - p % byteBits - suc (suc n) = omega arith in
    let d : byteBits - 1 - p % byteBits ≡ byteBits - p % byteBits - suc (suc n) + suc n = omega arith in
    rw (i, a, b, c, d) (sym (split (get_or s (p / byteBits) 0) (byteBits - p % byteBits - suc (suc n)) (suc n)))
  where
    split : (x k m : ℕ) → x / 2 ^ k % 2 ^ suc m ≡ x / 2 ^ (k + m) % 2 * 2 ^ m + x / 2 ^ k % 2 ^ m
    split x k m = let e : suc m ≡ 1 + m = omega arith in rw e (mod-pow-add (x / 2 ^ k) 1 m ∙ rw (shr-shr x k m))

-- v, the first k bits, shifted by n: nothing is lost
pub shifted : (s : List ℕ) (k n p : ℕ) {v x : ℕ} → k + n ≤ 64 → v ≡ spelled s k p → x ≡ spelled s n (p + k) → v * 2 ^ n % 2 ^ 64 + x ≡ spelled s (k + n) p
shifted s k n p h d e = rw (d, e, shl_exact k n 64 (spelled-lt s k p) h) (sym (spelled-append s k n p))

pub fits : (s : List ℕ) (k p : ℕ) → k ≤ 64 → spelled s k p < 2 ^ 64
fits s k p h = lt_of_lt_of_le (spelled-lt s k p) (pow_mono h)

-- a mask of n ones, as it is made
power : (n : ℕ) → n < 64 → 1 * 2 ^ n % 2 ^ 64 ≡ 2 ^ n
power n h = rw (shl_exact 1 n 64 one (omega arith)) (one-mul (2 ^ n))
  where
    one : 1 < 2 ^ 1
    one = omega arith

-- ---- a window of two bytes

-- a bits up to the end of a byte, and b of the byte behind it
across : (s : List ℕ) (p a b x y : ℕ) → x ≡ get_or s (p / byteBits) 0 → y ≡ get_or s (p / byteBits + 1) 0 → y < 2 ^ 8 → p % byteBits + a ≡ byteBits → b ≤ 8 → (x * 2 ^ 8 + y) / 2 ^ (8 - b) % 2 ^ (a + b) ≡ spelled s (a + b) p
across s p a b x y x-is y-is h e k =
    let z = (x * 2 ^ 8 + y) / 2 ^ (8 - b) in
    let up : 8 - b + b ≡ 8 = omega arith in
    let down : b + (8 - b) ≡ 8 = omega arith in
    let first : z / 2 ^ b ≡ x = shr-shr (x * 2 ^ 8 + y) (8 - b) b ∙ rw up (high x 8 h) in
    let last : z % 2 ^ b ≡ y / 2 ^ (8 - b) % 2 ^ b = sym (field (x * 2 ^ 8 + y) b (8 - b)) ∙ rw (down, low x 8 h) (sym (shr_mod b (8 - b) (rw down h))) in
    let q : byteBits - p % byteBits - a ≡ 0 = omega arith in
    let r : (p + a) % byteBits ≡ 0 = omega arith in
    let t : (p + a) / byteBits ≡ p / byteBits + 1 = omega arith in
    let one : x / 2 ^ 0 ≡ x = omega arith in
    let left : spelled s a p ≡ x % 2 ^ a = spelled-part s a p (omega arith) ∙ rw (q, ← x-is, one) in
    let right : spelled s b (p + a) ≡ y / 2 ^ (8 - b) % 2 ^ b = spelled-part s b (p + a) (omega arith) ∙ rw (r, t, ← y-is) in
    mod-pow-add z a b ∙ rw (first, last, ← left, ← right) (sym (spelled-append s a b p))

-- n bits in the byte where they begin, x, and the one behind it, y; where they end in the first, the other is shifted out
pub windowed : (s : List ℕ) (n p x y : ℕ) → x ≡ get_or s (p / byteBits) 0 → (byteBits < p % byteBits + n → y ≡ get_or s (p / byteBits + 1) 0) → y < 2 ^ 8 → n ≤ byteBits → (x * 2 ^ 8 + y) / 2 ^ (16 - p % byteBits - n) % 2 ^ n ≡ spelled s n p
windowed s n p x y x-is y-is h k = by (leb (p % byteBits + n) byteBits) refl
  where
    by : (b : Bool) → leb (p % byteBits + n) byteBits ≡ b → (x * 2 ^ 8 + y) / 2 ^ (16 - p % byteBits - n) % 2 ^ n ≡ spelled s n p
    by true e =
        let i : p % byteBits + n ≤ byteBits = leb-true _ _ e in
        let d : 16 - p % byteBits - n ≡ 8 + (byteBits - p % byteBits - n) = omega arith in
        rw (d, ← shr-shr (x * 2 ^ 8 + y) 8 (byteBits - p % byteBits - n), high x 8 h, x-is) (sym (spelled-part s n p i))
    by false e =
        let i : byteBits < p % byteBits + n = leb-false _ _ e in
        let d : 16 - p % byteBits - n ≡ 8 - (p % byteBits + n - 8) = omega arith in
        let m : n ≡ (8 - p % byteBits) + (p % byteBits + n - 8) = omega arith in
        rw d (subst (λ l. (x * 2 ^ 8 + y) / 2 ^ (8 - (p % byteBits + n - 8)) % 2 ^ l ≡ spelled s l p) (sym m) (across s p (8 - p % byteBits) (p % byteBits + n - 8) x y x-is (y-is i) h (omega arith) (omega arith)))

-- and as it is masked
pub masked : (s : List ℕ) (n p x y : ℕ) → x ≡ get_or s (p / byteBits) 0 → (byteBits < p % byteBits + n → y ≡ get_or s (p / byteBits + 1) 0) → x < 2 ^ 8 → y < 2 ^ 8 → n ≤ byteBits
    → bit_and ((x * 2 ^ 8 % 2 ^ 64 + y) / 2 ^ (16 - p % byteBits - n)) (1 * 2 ^ n % 2 ^ 64 - 1) ≡ spelled s n p
masked s n p x y x-is y-is g h k =
    let l : n < 64 = omega arith in
    rw (power n l, shl_exact {a = x} 8 8 64 g (omega arith)) (and_mask ((x * 2 ^ 8 + y) / 2 ^ (16 - p % byteBits - n)) n ∙ windowed s n p x y x-is y-is h k)
