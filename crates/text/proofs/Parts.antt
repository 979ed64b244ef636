-- The digits of a number and of a text, as the loops write them. Assumes nothing.
use mathlib.Core.Path.{◌≡◌, refl, sym}
use mathlib.Core.List.{List, [], ◌∷◌, append-nil, tail}
use Prim.Native.Nat.{ℕ, zero, suc, ◌+◌, ◌-◌, ◌/◌, ◌%◌, ◌≤◌, ◌<◌}
use native.Mathlib.Numerals.{add-one}
use native.Mathlib.Omega.{arith}
use mathlib.Core.Bool.{Bool, true, false}
use lib.IntN.{ℤ, pos, negsuc, nat_abs}
use lib.Signed.{lt_z}
use mir.Syntax.{w64}
use mir.Val.{SFits, to_z, of_z}
use mir.ValLaws.{to_z-of_z}
use lib.ListN.{length, drop, set, get_or}
use lib.Seq.{drop-cons, drop-length}
use borrow.Author.Tests.{ltb-true, lt-ltb, le-ltb}
use Rattle.rules.specs.Listing as Listing
use Rattle.std.proofs.lemmas.List.{drop-set}
use Rattle.text.specs.Numbers.{nums}
use Rattle.text.proofs.Writes.{Are}

-- ---- a number

digits-last : (k x : ℕ) (t : List ℕ) → x < 10 → Listing.digits (suc k) x t ≡ (48 + x % 10) ∷ t
unfolding Listing.digits
digits-last k x t h = rw (lt-ltb x 10 h, Listing.digits)

digits-more : (k x : ℕ) (t : List ℕ) → 10 ≤ x → Listing.digits (suc k) x t ≡ Listing.digits k (x / 10) ((48 + x % 10) ∷ t)
unfolding Listing.digits
digits-more k x t h = rw (le-ltb x 10 h, Listing.digits)

digits-none : (x : ℕ) (t : List ℕ) → Listing.digits 0 x t ≡ t
unfolding Listing.digits
digits-none x t = refl

-- one digit more in front of those from k on
module _ (d : List ℕ) (x : ℕ) where
  pub digit_last : (k : ℕ) → 0 < k → k ≤ length d → x < 10 → Listing.digits k x (drop k d) ≡ drop (k - 1) (set d (k - 1) (48 + x % 10))
  digit_last zero h l e = absurd (omega arith)
  digit_last (suc k) h l e =
      let s : suc k - 1 ≡ k = omega arith in
      sym (rw (s, drop-set d k (48 + x % 10) (omega arith), add-one k, digits-last k x (drop (suc k) d) e))

  pub digit_more : (k : ℕ) → 0 < k → k ≤ length d → 10 ≤ x → Listing.digits k x (drop k d) ≡ Listing.digits (k - 1) (x / 10) (drop (k - 1) (set d (k - 1) (48 + x % 10)))
  digit_more zero h l e = absurd (omega arith)
  digit_more (suc k) h l e =
      let s : suc k - 1 ≡ k = omega arith in
      sym (rw (s, drop-set d k (48 + x % 10) (omega arith), add-one k, digits-more k x (drop (suc k) d) e))

  pub no_digit : (k : ℕ) → k ≤ 0 → Listing.digits k x (drop k d) ≡ drop k d
  no_digit zero h = digits-none x d
  no_digit (suc k) h = absurd (omega arith)

-- ---- a text

-- the digits of the characters from i on
pub hex-none : (s : List ℕ) (i : ℕ) → length s ≤ i → i ≤ length s → Are [] (Listing.hex (drop i s))
unfolding Listing.hex
hex-none s i a b = let e : i ≡ length s = omega arith in record { flat-is = rw (e, drop-length) }

pub hex-more : (s : List ℕ) (i : ℕ) → i < length s → {x y : ℕ} → x ≡ Listing.hexDigit (get_or s i 0 / 16) → y ≡ Listing.hexDigit (get_or s i 0 % 16) →
    Are ((x ∷ []) ∷ (y ∷ []) ∷ Listing.hex (drop (i + 1) s) ∷ []) (Listing.hex (drop i s))
unfolding Listing.hex
hex-more s i h p q = record { flat-is = rw (p, q, add-one, drop-cons s i 0 h, append-nil) }

-- ---- the parts of a number and of a text

below : (z : ℤ) {v : ℕ} → lt_z z (pos 0) ≡ true → v ≡ nat_abs z → Are ((32 ∷ []) ∷ (45 ∷ []) ∷ Listing.digits 20 v [] ∷ []) (Listing.int z)
unfolding Listing.int
below (pos n) h e = absurd (let l : n < 0 = ltb-true n 0 h in omega arith)
below (negsuc n) h e = record { flat-is = rw (e, append-nil) }

above : (z : ℤ) {v : ℕ} → lt_z z (pos 0) ≡ false → v ≡ nat_abs z → Are ((32 ∷ []) ∷ Listing.digits 20 v [] ∷ []) (Listing.int z)
unfolding Listing.int
above (pos n) h e = record { flat-is = rw (e, append-nil) }
above (negsuc n) h e = absurd (let z : ◌≡◌ {A = Bool} true false = h in cc)

-- z is read back from its bits
module _ (z : ℤ) (f : SFits w64 z) {v : ℕ} where
  pub neg-parts : lt_z (to_z w64 (of_z w64 z)) (pos 0) ≡ true → v ≡ nat_abs (to_z w64 (of_z w64 z)) → Are ((32 ∷ []) ∷ (45 ∷ []) ∷ Listing.digits 20 v [] ∷ []) (Listing.int z)
  neg-parts h e = below z (rw (to_z-of_z w64 z f) at h) (rw (to_z-of_z w64 z f) at e)

  pub pos-parts : lt_z (to_z w64 (of_z w64 z)) (pos 0) ≡ false → v ≡ nat_abs (to_z w64 (of_z w64 z)) → Are ((32 ∷ []) ∷ Listing.digits 20 v [] ∷ []) (Listing.int z)
  pos-parts h e = above z (rw (to_z-of_z w64 z f) at h) (rw (to_z-of_z w64 z f) at e)

pub empty-text : (s : List ℕ) → length s ≡ 0 → Are ((32 ∷ []) ∷ (45 ∷ []) ∷ []) (Listing.hexText s)
unfolding Listing.hexText
empty-text [] h = record { flat-is = refl }
empty-text (x ∷ s) h = absurd (omega arith)

pub text-is : (s : List ℕ) → (length s ≡ 0 → ⊥) → Are ((32 ∷ []) ∷ Listing.hex s ∷ []) (Listing.hexText s)
unfolding Listing.hexText
text-is [] h = absurd (h refl)
text-is (x ∷ s) h = record { flat-is = rw append-nil }

-- before it is known which
pub int-first : (z : ℤ) → Are ((32 ∷ []) ∷ tail (Listing.int z) ∷ []) (Listing.int z)
unfolding Listing.int
int-first (pos v) = record { flat-is = rw append-nil }
int-first (negsuc v) = record { flat-is = rw append-nil }

pub text-first : (s : List ℕ) → Are ((32 ∷ []) ∷ tail (Listing.hexText s) ∷ []) (Listing.hexText s)
unfolding Listing.hexText
text-first [] = record { flat-is = refl }
text-first (x ∷ s) = record { flat-is = rw append-nil }

-- ---- numbers from i on

pub nums-none : (vs : List ℕ) (i : ℕ) → length vs ≤ i → i ≤ length vs → Are [] (nums (drop i vs))
unfolding nums
nums-none vs i a b = let e : i ≡ length vs = omega arith in record { flat-is = rw (e, drop-length) }

pub nums-more : (vs : List ℕ) (i : ℕ) → i < length vs → Are (Listing.nat (get_or vs i 0) ∷ nums (drop (i + 1) vs) ∷ []) (nums (drop i vs))
unfolding nums
nums-more vs i h = record { flat-is = rw (add-one, drop-cons vs i 0 h, append-nil) }
