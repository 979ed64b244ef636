-- Bits of a list of bytes, most significant first, and fields of them.
use Rattle.std.specs.Prelude.{Bool, true, false, List, ℕ, zero, suc, ◌+◌, ◌*◌, ◌-◌, ◌/◌, ◌%◌, ◌^◌, leb, eqb, length, get_or}
use Rattle.rules.specs.Constants.{byteBits}
use Rattle.rules.specs.Refusal as Refusal

-- what a call or a step that may refuse gives: the refusal's number, or a value
pub data Res (A : Type 0) : Type 0 where
  refused : ℕ → Res A
  ok : A → Res A

-- bit i of the bytes s
unfoldable pub bit : List ℕ → ℕ → ℕ
bit s i = get_or s (i / byteBits) 0 / 2 ^ (byteBits - 1 - i % byteBits) % 2

-- the number that the w bits at position p spell
unfoldable pub spelled : List ℕ → ℕ → ℕ → ℕ
unfolding bit
spelled s zero p = 0
spelled s (suc w) p = bit s p * 2 ^ w + spelled s w (suc p)

-- the field of w bits at p: its value and the next position, or 3 where the file ends inside it
unfoldable pub field : List ℕ → ℕ → ℕ → Res (ℕ × ℕ)
unfolding spelled
field s w p = elim (leb (p + w) (byteBits * length s)) [ true ↦ ok (spelled s w p, p + w) | false ↦ refused Refusal.endsInField ]

-- a flag's field as a test
unfoldable pub isOne : ℕ → Bool
isOne n = eqb n 1
