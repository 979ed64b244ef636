-- Characters of the file in the pool, and two's complement. Assumes nothing.
use mathlib.Core.Path.{◌≡◌, refl, sym, ap, ◌∙◌}
use mathlib.Core.Bool.{Bool, true, false}
use lib.Dec.{ltb}
use mathlib.Core.List.{List, ◌++◌, append_assoc}
use Prim.Native.Nat.{ℕ, zero, suc, ◌+◌, ◌-◌, ◌*◌, ◌^◌, ◌≤◌, ◌<◌}
use native.Mathlib.Nat.{zero-add}
use native.Mathlib.Numerals.{add-one}
use native.Mathlib.Omega.{arith}
use lib.IntN.{pos, negsuc}
use lib.ListN.{set, length, take, drop}
use borrow.Rule.Slice.PartMut.{put_mid}
use Rattle.std.proofs.lemmas.List.{append-nil, drop_all, drop-drop, length-drop, length-take-le}
use Rattle.std.proofs.lemmas.List.Edits.{sets-eq}
use lib.Seq.{sets}
use mir.Syntax.{w64}
use mir.Val.{sel, to_z}
use Rattle.rules.specs.Constants.{charBits}
use Rattle.rules.specs.Bits.{spelled}
use Rattle.rules.specs.Parse.{signed}
use Rattle.bits.specs.Reads.{charsAt}

-- one character stored, the others left to store
pub one-char : (s l : List ℕ) (m i p w : ℕ) → 0 < m → w ≡ spelled s charBits p → sets (set l i w) (i + 1) (charsAt s (m - 1) (p + charBits)) ≡ sets l i (charsAt s m p)
unfolding charsAt
one-char s l zero i p w h e = absurd (omega arith)
one-char s l (suc m) i p w h e = rw (e, add-one, one-less m)
  where
    one-less : (k : ℕ) → suc k - 1 ≡ k
    one-less k = omega arith

pub no-char : (s l : List ℕ) (m i p : ℕ) → m ≡ 0 → sets l i (charsAt s m p) ≡ l
unfolding charsAt
no-char s l zero i p h = refl
no-char s l (suc m) i p h = absurd (omega arith)

pub same-chars : (s l : List ℕ) (i i' m m' p p' : ℕ) → i ≡ i' → m ≡ m' → p ≡ p' → sets l i (charsAt s m p) ≡ sets l i' (charsAt s m' p')
same-chars s l i i' m m' p p' e f g = rw (e, f, g)

-- a turn of the copying loop
pub next-char : (s l r : List ℕ) (i n p k w : ℕ) → k < n → w ≡ spelled s charBits (p + 7 * k) → sets l (i + k) (charsAt s (n - k) (p + 7 * k)) ≡ r
    → sets (set l (i + k) w) (i + (k + 1)) (charsAt s (n - (k + 1)) (p + 7 * (k + 1))) ≡ r
next-char s l r i n p k w h e q =
    same-chars s (set l (i + k) w) (i + (k + 1)) (i + k + 1) (n - (k + 1)) (n - k - 1) (p + 7 * (k + 1)) (p + 7 * k + 7) (omega arith) (omega arith) (omega arith)
    ∙ (one-char s l (n - k) (i + k) (p + 7 * k) w (omega arith) e ∙ q)

-- the same where storing begins at a part's start
pub next-stored : (s l r : List ℕ) (n p k w : ℕ) → k < n → w ≡ spelled s charBits (p + 7 * k) → sets l k (charsAt s (n - k) (p + 7 * k)) ≡ r
    → sets (set l k w) (k + 1) (charsAt s (n - (k + 1)) (p + 7 * (k + 1))) ≡ r
next-stored s l r n p k w h e q = rw (zero-add k, zero-add (k + 1)) at (next-char s l r 0 n p k w h e (rw (zero-add k) q))

-- the whole of a list is stored
pub all-set : (l vs : List ℕ) → length vs ≡ length l → sets l 0 vs ≡ vs
all-set l vs h = sets-eq vs l 0 (omega arith) ∙ (ap (λ m. vs ++ m) (drop_all (0 + length vs) l (omega arith)) ∙ append-nil vs)

-- the n from the i-th on are n, and with others in their place the list is as after so many stores
pub part-length : (l : List ℕ) (i n : ℕ) → i + n ≤ length l → length (take (i + n - i) (drop i l)) ≡ n
part-length l i n h = length-take-le (i + n - i) (drop i l) (omega (arith, length-drop i l)) ∙ omega arith

pub part-set : (l t vs : List ℕ) (i j k : ℕ) → i ≡ j → i + k ≤ length l → t ≡ vs → length vs ≡ k → put_mid i k l t ≡ sets l j vs
part-set l t vs i j k q f e h =
    ap (λ m. put_mid i k l m) e
    ∙ (ap (λ m. take i l ++ (vs ++ m)) (drop-drop k i l ∙ ap (λ n. drop (i + n) l) (sym h))
    ∙ (sym (append_assoc (take i l) vs _) ∙ (sym (sets-eq vs l i (omega arith)) ∙ ap (λ n. sets l n vs) q)))

-- a word read in two's complement
pub as-signed : (v : ℕ) → to_z w64 v ≡ signed v
unfolding signed
as-signed v = by (ltb v (2 ^ 63))
  where
    by : (b : Bool) → sel b (pos v) (negsuc (2 ^ 64 - suc v)) ≡ elim b [ true ↦ pos v | false ↦ negsuc (2 ^ 64 - 1 - v) ]
    by true = refl
    by false = ap negsuc (omega arith)
