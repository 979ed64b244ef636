-- What is said of lowered statements and lines: every register is there, and so many instructions and sections at most. proofs/Own shows it.
use Rattle.std.specs.Prelude.{◌≡◌, [], ◌∷◌, ℕ, suc, ◌+◌, ◌*◌, ◌≤◌, ◌<◌, length}
use Rattle.std.proofs.Common.{arith}
use Rattle.rules.specs.Constants.{numbersANode, instrsANode, sectionsAStatement}
use Rattle.rules.specs.Tree.{Tally}
use Rattle.rules.specs.Tables.{Counts}
use Rattle.rules.specs.Script.{Stmts, nil, plain, Script}
use Rattle.rules.specs.Assemble.{sectionsMade}
use Rattle.rules.specs.CodegenData.{CodegenData}
use Rattle.rules.specs.Preservation.{All}
use Rattle.bounds.specs.Room.{Ok, Room, code-grows, roomOf, Cost, cost, Went}

abbrev pub costOf : Tally → Cost
costOf c = cost (numbersANode * c.nodes) (instrsANode * c.nodes) (3 * c.nodes) c.strings c.characters

abbrev pub free : Cost → Cost
free c = cost c.n 0 c.v c.s c.p

-- Every statement's own instructions are fit, and so are a goto's and a condition's registers.
abbrev pub Whole : Counts → Stmts → Type 0
Whole u nil = Unit {0}
Whole u (plain o s) = All (Ok u) o × Whole u s
Whole u (Stmts.goto o r s) = All (Ok u) o × (r < u.numbers) × Whole u s
Whole u (Stmts.ite o c t e s) = All (Ok u) o × (c < u.numbers) × Whole u t × Whole u e × Whole u s

pub whole-grows : (u w : Counts) → Room u w → (s : Stmts) → Whole u s → Whole w s
whole-grows u w r nil h = tt
whole-grows u w r (plain o s) h = (code-grows u w r o h.0, whole-grows u w r s h.1)
whole-grows u w r (Stmts.goto o k s) h = (code-grows u w r o h.0, omega (arith, h.1), whole-grows u w r s h.2)
whole-grows u w r (Stmts.ite o c t e s) h =
    (code-grows u w r o h.0, omega (arith, h.1), whole-grows u w r t h.2, whole-grows u w r e h.3, whole-grows u w r s h.4)

-- How many instructions a list's sections have at most.
abbrev pub codeOf : Stmts → ℕ
codeOf nil = 0
codeOf (plain o s) = length o + codeOf s
codeOf (Stmts.goto o r s) = length o + codeOf s
codeOf (Stmts.ite o c t e s) = suc (length o) + (codeOf t + (codeOf e + codeOf s))

pub record Made (c : Tally) (g : CodegenData) (x : Stmts × CodegenData) : Type 0 where
  pub went : Went (free (costOf c)) g x.1
  pub whole : Whole (roomOf x.1) x.0
  pub size-most : sectionsMade x.0 ≤ sectionsAStatement * c.statements
  pub code-most : codeOf x.0 ≤ instrsANode * c.nodes

-- ---- lines

abbrev pub sizes : Script → ℕ
sizes [] = 0
sizes (s ∷ ss) = sectionsMade s + sizes ss

abbrev pub codes : Script → ℕ
codes [] = 0
codes (s ∷ ss) = codeOf s + codes ss

pub record MadeAll (c : Tally) (l : ℕ) (g : CodegenData) (x : Script × CodegenData) : Type 0 where
  pub went : Went (free (costOf c)) g x.1
  pub whole : All (Whole (roomOf x.1)) x.0
  pub long : length x.0 ≡ l
  pub size-most : sizes x.0 ≤ sectionsAStatement * c.statements
  pub code-most : codes x.0 ≤ instrsANode * c.nodes
