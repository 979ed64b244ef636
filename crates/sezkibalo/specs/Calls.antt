-- What each call through the static library answers, and what is lent afterwards: the operations of docs/FORMAT.md with plain numbers. 0 is an
-- answer that does not refuse. Text answers `textSpot` of rules.
use Rattle.std.specs.Prelude.{true, false, List, [], ◌∷◌, ◌++◌, ℕ, ◌/◌, ◌%◌, ltb, eqb, length, drop, get_or}
use Rattle.rules.specs.Refusal as Refusal
use Rattle.rules.specs.Bits.{Res, refused, ok}
use Rattle.rules.specs.Tables.{Tables, Counts}
use Rattle.rules.specs.Lowered.{Options}
use Rattle.rules.specs.Operations.{Size, size}

-- numbers at the start of a lent list, the rest as it was
abbrev pub front : List ℕ → List ℕ → List ℕ
front ws c = ws ++ drop (length ws) c

-- ---- size

-- the sizes in their order
abbrev pub sizeRow : Size → List ℕ
sizeRow z = z.lines ∷ z.names ∷ z.statements ∷ z.nodes ∷ z.strings ∷ z.characters ∷ []

abbrev pub sizeAnswer : Res Size → List ℕ → ℕ × List ℕ
sizeAnswer (refused n) c = (n, c)
sizeAnswer (ok z) c = (0, front (sizeRow z) c)

-- sezkibalo_size: 11 before all else where `counts` has no room for six
unfoldable pub sizeCall : List ℕ → List ℕ → ℕ × List ℕ
sizeCall s c = elim (ltb (length c) 6) [ true ↦ (Refusal.noRoom, c) | false ↦ sizeAnswer (size s) c ]

-- ---- replace, clean, combine

-- the counts in their order
abbrev pub countsRow : Counts → List ℕ
countsRow u = u.lines ∷ u.sections ∷ u.instrs ∷ u.numbers ∷ u.strings ∷ u.pool ∷ u.values ∷ u.names ∷ []

abbrev pub rowCounts : List ℕ → Counts
rowCounts c = record {
  lines = get_or c 0 0;
  sections = get_or c 1 0;
  instrs = get_or c 2 0;
  numbers = get_or c 3 0;
  strings = get_or c 4 0;
  pool = get_or c 5 0;
  values = get_or c 6 0;
  names = get_or c 7 0;
}

-- an answer as a number, and the lent list behind it
abbrev pub answerRow : Res Counts → List ℕ → ℕ × List ℕ
answerRow (refused n) c = (n, c)
answerRow (ok u) c = (0, front (countsRow u) c)

abbrev pub beside : ℕ × List ℕ → Tables → ℕ × List ℕ × Tables
beside p t = (p.0, p.1, t)

-- an operation f on the machine in the tables: 11 before all else where `counts` has no room for eight
unfoldable pub changeCall : (Tables → Counts → Res Counts × Tables) → List ℕ → Tables → ℕ × List ℕ × Tables
changeCall f c t = elim (ltb (length c) 8) [ true ↦ (Refusal.noRoom, c, t) | false ↦ beside (answerRow (f t (rowCounts c)).0 c) (f t (rowCounts c)).1 ]

-- ---- lower, finish

-- bit 0 protects the local names, bit 1 the global ones; the other bits are ignored
abbrev pub optionsOf : ℕ → Options
optionsOf n = record { locals = eqb (n % 2) 1; globals = eqb (n / 2 % 2) 1 }

-- an operation f on the tree file s: as above, and the counts that are lent are not read
abbrev pub buildCall : (Options → List ℕ → Tables → Res Counts × Tables) → List ℕ → ℕ → List ℕ → Tables → ℕ × List ℕ × Tables
buildCall f s n = changeCall (λ t u. f (optionsOf n) s t)
