-- The operators of the code as `rules` has them.
use Rattle.rules.specs.Tree.{Binop as BinopS, Unop as UnopS}
use Rattle.rules.specs.Tree as T
use Rattle.codegen.specs.declared.operators.Binop.{Binop}
use Rattle.codegen.specs.declared.operators.Binop.TheVariants.{And, Or, Add, Sub, Mul, Div, Mod, Pow, Eq, Ne, Le, Lt, Ge, Gt}
use Rattle.codegen.specs.declared.operators.Unop.{Unop}
use Rattle.codegen.specs.declared.operators.Unop.TheVariants.{Neg, Not, Abs, Sqrt, Fact, Sin, Cos, Tan, Asin, Acos, Atan}

abbrev pub binopTold : Binop → BinopS
binopTold And = T.And
binopTold Or = T.Or
binopTold Add = T.Add
binopTold Sub = T.Sub
binopTold Mul = T.Mul
binopTold Div = T.Div
binopTold Mod = T.Mod
binopTold Pow = T.Pow
binopTold Eq = T.Eq
binopTold Ne = T.Ne
binopTold Le = T.Le
binopTold Lt = T.Lt
binopTold Ge = T.Ge
binopTold Gt = T.Gt

abbrev pub unopTold : Unop → UnopS
unopTold Neg = T.Neg
unopTold Not = T.Not
unopTold Abs = T.Abs
unopTold Sqrt = T.Sqrt
unopTold Fact = T.Fact
unopTold Sin = T.Sin
unopTold Cos = T.Cos
unopTold Tan = T.Tan
unopTold Asin = T.Asin
unopTold Acos = T.Acos
unopTold Atan = T.Atan
