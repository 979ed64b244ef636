-- Packing and unpacking are inverse: one law over the widths, for every layout. Words cites it for the three words. Assumes nothing.
use Rattle.std.specs.Prelude.{◌≡◌, refl, List, [], ◌∷◌, ℕ, zero, suc, ◌+◌, ◌*◌, ◌/◌, ◌%◌, ◌^◌, ◌<◌, get_or, take}
use Rattle.std.proofs.Common.{sym, ◌∙◌, arith, mod-lt, mod-eq_of_lt, mul_assoc, mul-le-mul_right, pow_pos, pow-add}
use Rattle.std.proofs.Math.Nat.{zero-div, zero-mod, mod-one, mul-add-div_right, mul-add-mod_self_right}
use Rattle.std.proofs.Math.Pow.{high}
use Rattle.std.proofs.lemmas.Nat.{mod-pow-add}
use Rattle.rules.specs.Word.{width, pack, unpack}
use Rattle.laws.specs.Pack.{Small, fields}

-- a high part and a low part of k bits
beside : (w k v n : ℕ) → v < 2 ^ w → n < 2 ^ k → v * 2 ^ k + n < 2 ^ (w + k)
beside w k v n hv hn = rw pow-add (omega (arith, mul-le-mul_right (2 ^ k) hv))

-- a word lies below 2 ^ the layout's width
pub pack-lt : (ws vs : List ℕ) → Small ws vs → pack ws vs < 2 ^ width ws
pack-lt [] [] h = pow_pos 0
pack-lt [] (v ∷ vs) h = absurd h
pack-lt (w ∷ ws) [] h = pow_pos (w + width ws)
pack-lt (w ∷ ws) (v ∷ vs) h = beside w (width ws) v (pack ws vs) h.0 (pack-lt ws vs h.1)

-- a field does not see what lies above its layout
above : (ws : List ℕ) (i v n : ℕ) → unpack ws i (v * 2 ^ width ws + n) ≡ unpack ws i n
above [] i v n = refl
above (w ∷ ws) zero v n =
    rw (pow-add, ← mul_assoc, mul-add-div_right (pow_pos (width ws)) (v * 2 ^ w) n, mul-add-mod_self_right)
above (w ∷ ws) (suc i) v n = rw (pow-add, ← mul_assoc) (above ws i (v * 2 ^ w) n)

nothing : (ws : List ℕ) (i : ℕ) → unpack ws i 0 ≡ 0
nothing [] i = refl
nothing (w ∷ ws) zero = rw (zero-div, zero-mod)
nothing (w ∷ ws) (suc i) = nothing ws i

-- what is unpacked is what was packed
pub unpack-pack : (ws vs : List ℕ) (i : ℕ) → Small ws vs → unpack ws i (pack ws vs) ≡ get_or vs i 0
unpack-pack [] [] i h = refl
unpack-pack [] (v ∷ vs) i h = absurd h
unpack-pack (w ∷ ws) [] i h = nothing (w ∷ ws) i
unpack-pack (w ∷ ws) (v ∷ vs) zero h = rw (high v (width ws) (pack-lt ws vs h.1)) (mod-eq_of_lt h.0)
unpack-pack (w ∷ ws) (v ∷ vs) (suc i) h = above ws i v (pack ws vs) ∙ unpack-pack ws vs i h.1

-- the fields of a word are small
pub fields-small : (ws : List ℕ) (n : ℕ) → Small ws (fields ws n)
fields-small [] n = tt
fields-small (w ∷ ws) n = (mod-lt (n / 2 ^ width ws) (pow_pos w), fields-small ws n)

-- the same of the first fields
pub small-take : (ws vs : List ℕ) (k : ℕ) → Small ws vs → Small ws (take k vs)
small-take ws vs zero h = small-none ws
  where
    small-none : (us : List ℕ) → Small us []
    small-none [] = tt
    small-none (u ∷ us) = tt
small-take [] [] (suc k) h = tt
small-take [] (v ∷ vs) (suc k) h = h
small-take (w ∷ ws) [] (suc k) h = tt
small-take (w ∷ ws) (v ∷ vs) (suc k) h = (h.0, small-take ws vs k h.1)

-- a word is the pack of its fields, what lies above the layout aside
pub pack-fields : (ws : List ℕ) (n : ℕ) → pack ws (fields ws n) ≡ n % 2 ^ width ws
pack-fields [] n = sym (mod-one n)
pack-fields (w ∷ ws) n = rw (pack-fields ws n, mod-pow-add n w (width ws))

pub pack-unpack : (ws : List ℕ) (n : ℕ) → n < 2 ^ width ws → pack ws (fields ws n) ≡ n
pack-unpack ws n h = pack-fields ws n ∙ mod-eq_of_lt h
