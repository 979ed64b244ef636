-- What the program finlist prints: rows of ASCII codes, each with a line feed.
use Rattle.std.specs.Prelude.{Bool, true, false, ◌&&◌, List, [], ◌∷◌, ◌++◌, ℕ, zero, suc, ◌+◌, ◌/◌, ◌%◌, leb, ltb, eqb, ℤ, pos, negsuc, length, take, drop}
use Rattle.rules.specs.Bits.{refused, ok}
use Rattle.rules.specs.Parse.{parse}
use Rattle.rules.specs.Instr.{Instruction}
use Rattle.rules.specs.Word.{Span}
use Rattle.rules.specs.Constants.{mark, finlistBytes, finlistSections, finlistInstrs, finlistNumbers}
use Rattle.rules.specs.Refusal as Refusal
use Rattle.rules.specs.Machine.{SectionCode, Machine}
use Rattle.rules.specs.Tables.{Counts, flag, kindOf, targetOf}
use Rattle.rules.specs.Lowered.{defaults, finished}
use Rattle.rules.specs.Operations.{sizeOf, estimate}

-- at most n decimal digits of v, in front of t
unfoldable pub digits : ℕ → ℕ → List ℕ → List ℕ
digits zero v t = t
digits (suc n) v t = let u = (48 + v % 10) ∷ t in elim (ltb v 10) [ true ↦ u | false ↦ digits n (v / 10) u ]

-- a blank and a number; 20 digits hold any u64
unfoldable pub nat : ℕ → List ℕ
unfolding digits
nat v = 32 ∷ digits 20 v []

-- a blank and a number with its sign
unfoldable pub int : ℤ → List ℕ
unfolding digits
int (pos v) = 32 ∷ digits 20 v []
int (negsuc v) = 32 ∷ 45 ∷ digits 20 (suc v) []

-- a lower-case hexadecimal digit
unfoldable pub hexDigit : ℕ → ℕ
hexDigit v = elim (ltb v 10) [ true ↦ 48 + v | false ↦ 87 + v ]

-- two digits a character, no gaps
unfoldable pub hex : List ℕ → List ℕ
unfolding hexDigit
hex [] = []
hex (c ∷ cs) = hexDigit (c / 16) ∷ hexDigit (c % 16) ∷ hex cs

-- a blank and a text in hexadecimal, `-` if it is empty
unfoldable pub hexText : List ℕ → List ℕ
unfolding hex
hexText [] = 32 ∷ 45 ∷ []
hexText (c ∷ cs) = 32 ∷ hex (c ∷ cs)

-- a row: its letter, its fields, a line feed
unfoldable pub row : ℕ → List ℕ → List ℕ
row letter fields = letter ∷ fields ++ (10 ∷ [])

-- N register thousandths
unfoldable pub rowsN : ℕ → List ℤ → List ℕ
unfolding row nat int
rowsN i [] = []
rowsN i (z ∷ zs) = row 78 (nat i ++ int z) ++ rowsN (suc i) zs

-- T register length hex
unfoldable pub rowsT : List ℕ → ℕ → List Span → List ℕ
unfolding row nat hexText
rowsT pool i [] = []
rowsT pool i (t ∷ ts) = row 84 (nat i ++ nat t.size ++ hexText (take t.size (drop t.start pool))) ++ rowsT pool (suc i) ts

-- V name register, where it is not 65,535
unfoldable pub rowsV : ℕ → List ℕ → List ℕ
unfolding row nat
rowsV i [] = []
rowsV i (v ∷ vs) = elim (eqb v mark) [ true ↦ rowsV (suc i) vs | false ↦ row 86 (nat i ++ nat v) ++ rowsV (suc i) vs ]

-- I opcode and three fields
unfoldable pub rowsI : List Instruction → List ℕ
unfolding row nat
rowsI [] = []
rowsI (i ∷ is) = row 73 (nat i.op ++ nat i.fst ++ nat i.snd ++ nat i.thd) ++ rowsI is

-- S section linestart kind target count, followed by its I rows
unfoldable pub rowsS : ℕ → List SectionCode → List ℕ
unfolding row nat flag kindOf targetOf rowsI
rowsS i [] = []
rowsS i (s ∷ ss) = row 83 (nat i ++ nat (flag s.lineStart) ++ nat (kindOf s.success) ++ nat (targetOf s.success) ++ nat (length s.instrs)) ++ (rowsI s.instrs ++ rowsS (suc i) ss)

-- M lines sections numbers strings values, then the other rows in their order
unfoldable pub listing : Machine → List ℕ
unfolding row nat rowsN rowsT rowsV rowsS
listing m =
    row 77 (nat m.lines ++ nat (length m.sections) ++ nat (length m.numbers) ++ nat (length m.strings) ++ nat m.values)
    ++ (rowsN 0 m.numbers ++ (rowsT m.pool 0 m.strings ++ (rowsV 0 m.names ++ rowsS 0 m.sections)))

-- R and the number
unfoldable pub refusal : ℕ → List ℕ
unfolding row nat
refusal n = row 82 (nat n)

-- do the tables that finlist lends hold the estimates? strings, pool and names always do
unfoldable pub fitsFinlist : Counts → Bool
fitsFinlist u = leb u.sections finlistSections && leb u.instrs finlistInstrs && leb u.numbers finlistNumbers

-- what is printed for a file
unfoldable pub finlist : List ℕ → List ℕ
unfolding parse sizeOf estimate fitsFinlist finished defaults listing refusal
finlist s = elim (leb (length s) finlistBytes) [
  | false ↦ refusal Refusal.tooLong
  | true ↦ elim (parse s) [ refused n ↦ refusal n | ok t ↦ elim (fitsFinlist (estimate (sizeOf t))) [ false ↦ refusal Refusal.noRoom | true ↦ listing (finished defaults t) ] ]
]
