-- The operators of an assignment as `rules` has them, and what each costs.
use Rattle.std.specs.Prelude.{ℕ}
use Rattle.rules.specs.Tree as T
use Rattle.stmts.specs.declared.own.Assignop.{Assignop}
use Rattle.stmts.specs.declared.own.Assignop.TheVariants.{Plain, AddTo, SubTo, MulTo, DivTo, ModTo, PowTo}

abbrev pub assignTold : Assignop → T.Assignop
assignTold Plain = T.Plain
assignTold AddTo = T.AddTo
assignTold SubTo = T.SubTo
assignTold MulTo = T.MulTo
assignTold DivTo = T.DivTo
assignTold ModTo = T.ModTo
assignTold PowTo = T.PowTo

unfoldable pub assignCost : T.Assignop → ℕ
assignCost T.Plain = 1
assignCost T.AddTo = 1
assignCost T.SubTo = 1
assignCost T.MulTo = 7
assignCost T.DivTo = 8
assignCost T.ModTo = 8
assignCost T.PowTo = 7
