-- How far the counters go, and what room that takes.
use Rattle.rules.specs.Constants.{mostCount}
use Rattle.std.specs.Prelude.{◌≡◌, Bool, true, false, ℕ, ◌+◌, ◌≤◌}
use Rattle.rules.specs.Tree.{Binop, Unop}
use Rattle.rules.specs.Tree.{And, Or, Add, Sub, Mul, Div, Mod, Pow, Eq, Ne, Le, Lt, Ge, Gt}
use Rattle.rules.specs.Tree.{Neg, Not, Abs, Sqrt, Fact, Sin, Cos, Tan, Asin, Acos, Atan}
use Rattle.codegen.specs.declared.state.Counters.{Counters}

-- ---- counters with one more

abbrev pub plus-instr : Counters → Counters
plus-instr c = record { at = c.at + 1; numbers = c.numbers; strings = c.strings; chars = c.chars; values = c.values; err = c.err }

abbrev pub plus-number : Counters → Counters
plus-number c = record { at = c.at; numbers = c.numbers + 1; strings = c.strings; chars = c.chars; values = c.values; err = c.err }

abbrev pub plus-value : Counters → Counters
plus-value c = record { at = c.at; numbers = c.numbers; strings = c.strings; chars = c.chars; values = c.values + 1; err = c.err }

abbrev pub plus-string : ℕ → Counters → Counters
plus-string h c = record { at = c.at; numbers = c.numbers; strings = c.strings + 1; chars = c.chars + h; values = c.values; err = c.err }

-- ---- how far they go

-- from c to c': at most i instructions, n numbers and v values more, and s strings of h characters
pub record Grew (c c' : Counters) (i n v s h : ℕ) : Type 0 where
  pub at : c'.at ≤ c.at + i
  pub numbers : c'.numbers ≤ c.numbers + n
  pub values : c'.values ≤ c.values + v
  pub strings : c'.strings ≡ c.strings + s
  pub chars : c'.chars ≡ c.chars + h

-- and so many instructions exactly
pub record Spent (c c' : Counters) (i n v s h : ℕ) : Type 0 where
  pub exact : c'.at ≡ c.at + i
  pub grew : Grew c c' i n v s h

-- there is room for i instructions, n numbers and v values: in tables of il and nl words, and in the 16 bits of a field
pub record Room (c : Counters) (i n v il nl : ℕ) : Type 0 where
  pub at : c.at + i ≤ il
  pub numbers : c.numbers + n ≤ nl
  pub numbers-fit : c.numbers + n ≤ mostCount
  pub values-fit : c.values + v ≤ mostCount

-- the instructions of an error jump that is there or not
unfoldable pub guardCost : Bool → ℕ
guardCost true = 1
guardCost false = 0

-- of an operator, whose operands are copied
unfoldable pub binopCost : Binop → ℕ
binopCost And = 4
binopCost Or = 4
binopCost Add = 1
binopCost Sub = 1
binopCost Mul = 6
binopCost Div = 7
binopCost Mod = 7
binopCost Pow = 6
binopCost Eq = 2
binopCost Ne = 3
binopCost Le = 2
binopCost Lt = 2
binopCost Ge = 2
binopCost Gt = 2

unfoldable pub unopCost : Unop → ℕ
unopCost Neg = 4
unopCost Not = 2
unopCost Abs = 4
unopCost Sqrt = 4
unopCost Fact = 4
unopCost Sin = 4
unopCost Cos = 4
unopCost Tan = 4
unopCost Asin = 4
unopCost Acos = 4
unopCost Atan = 4
