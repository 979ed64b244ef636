-- How many sections lowering makes of a list of statements.
use Rattle.std.specs.Prelude.{ℕ, suc, ◌+◌, ◌*◌, max}
use Rattle.rules.specs.Constants.{mostNodes, sectionsAStatement}
use Rattle.rules.specs.Tree.{Block, goto, ite, assign, end}

-- of a tree no more than these
abbrev pub mostSections : ℕ
mostSections = sectionsAStatement * mostNodes

-- in an Ite an empty list makes one all the same
unfoldable pub orOne : ℕ → ℕ
orOne n = max 1 n

-- one a statement, and one more where an Ite's lists join
unfoldable pub width : Block → ℕ
width end = 0
width (goto e s) = suc (width s)
width (ite c t e s) = suc (orOne (width t) + (orOne (width e) + suc (width s)))
width (Block.incdec i x s) = suc (width s)
width (assign x o e s) = suc (width s)
