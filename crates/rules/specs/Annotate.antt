-- Lowering, first factor: every statement gets its own instructions. Registers count up as lowering meets them, unlinked statements included.
use Rattle.std.specs.Prelude.{List, [], ◌∷◌, ℕ, length, replicate}
use Rattle.std.proofs.Math.Option.{none}
use Rattle.rules.specs.Tree.{Tree, Assignop, Expr, Block}
use Rattle.rules.specs.Tree.{Plain, AddTo, SubTo, MulTo, DivTo, ModTo, PowTo}
use Rattle.rules.specs.Tree.{binop, unop, ident, number, string, assign, end}
use Rattle.rules.specs.Instr.{ins₂}
use Rattle.rules.specs.Opcode as Op
use Rattle.rules.specs.Script.{Stmts, nil, plain, Script}
use Rattle.rules.specs.CodegenData.{CodegenData, Lower, pure, ◌>>=◌, emit, newNum, newStr, scoped}
use Rattle.rules.specs.Operators.{getVariable, copyValreg, makeTruthy, numberify, makeVal, makeArithBinop, applyBinop, applyUnop, codegenIncdec}

-- ---- expressions

-- an expression's value register; in a Binop the right operand is lowered and copied before the left
unfoldable pub codegenFromExpr : Expr → Lower ℕ
unfolding applyBinop applyUnop copyValreg codegenIncdec getVariable makeVal
codegenFromExpr (binop o l r) = do
  r₀ ← codegenFromExpr r
  r₁ ← copyValreg r₀
  l₀ ← codegenFromExpr l
  l₁ ← copyValreg l₀
  applyBinop o l₁ r₁
codegenFromExpr (unop o r) = do
  r₀ ← codegenFromExpr r
  r₁ ← copyValreg r₀
  applyUnop o r₁
codegenFromExpr (Expr.incdec i x) = codegenIncdec i x
codegenFromExpr (ident x) = getVariable x
codegenFromExpr (number z) = do
  n ← newNum z
  makeVal Op.ValueifyNum n
codegenFromExpr (string t) = do
  s ← newStr t
  makeVal Op.ValueifyStr s

-- ---- statements

-- a result that goes back into the variable
unfoldable pub store : Lower ℕ → ℕ → Lower ℕ
store m v = do
  o ← m
  emit (ins₂ Op.CopyVal o v)

-- the value e assigned to the variable v by an operator
unfoldable pub assignBy : Assignop → ℕ → ℕ → Lower ℕ
unfolding store makeArithBinop
assignBy Plain v e = emit (ins₂ Op.CopyVal e v)
assignBy AddTo v e = emit (ins₂ Op.AddVal v e)
assignBy SubTo v e = emit (ins₂ Op.SubVal v e)
assignBy MulTo v e = store (makeArithBinop Op.Mul v e) v
assignBy DivTo v e = store (makeArithBinop Op.Div v e) v
assignBy ModTo v e = store (makeArithBinop Op.Rem v e) v
assignBy PowTo v e = store (makeArithBinop Op.Pow v e) v

-- an Assign: its expression is lowered before its name is met
unfoldable pub codegenFromAssign : ℕ → Assignop → Expr → Lower ℕ
unfolding codegenFromExpr getVariable assignBy
codegenFromAssign x o e = do
  r ← codegenFromExpr e
  v ← getVariable x
  assignBy o v r

-- an Ite's condition, as a number register
unfoldable pub condition : Expr → Lower ℕ
unfolding codegenFromExpr makeTruthy
condition e = do
  r ← codegenFromExpr e
  makeTruthy r

-- a Goto's line, as a number register
unfoldable pub lineNumber : Expr → Lower ℕ
unfolding codegenFromExpr numberify
lineNumber e = do
  r ← codegenFromExpr e
  numberify r

-- a list of statements, each with its own instructions
unfoldable pub annotateStmts : Block → Lower Stmts
unfolding lineNumber condition codegenIncdec codegenFromAssign
annotateStmts end = pure nil
annotateStmts (Block.goto e xs) = do
  (c, n) ← scoped (lineNumber e)
  s ← annotateStmts xs
  pure (Stmts.goto c n s)
annotateStmts (Block.ite c t e xs) = do
  (i, n) ← scoped (condition c)
  t₁ ← annotateStmts t
  e₁ ← annotateStmts e
  s ← annotateStmts xs
  pure (Stmts.ite i n t₁ e₁ s)
annotateStmts (Block.incdec i x xs) = do
  (c, n) ← scoped (codegenIncdec i x)
  s ← annotateStmts xs
  pure (plain c s)
annotateStmts (assign x o e xs) = do
  (c, n) ← scoped (codegenFromAssign x o e)
  s ← annotateStmts xs
  pure (plain c s)

-- ---- lines

unfoldable pub annotateLines : List Block → Lower Script
unfolding annotateStmts
annotateLines [] = pure []
annotateLines (b ∷ bs) = do
  s ← annotateStmts b
  ss ← annotateLines bs
  pure (s ∷ ss)

-- before anything is lowered: no registers, and n names without one
unfoldable pub fresh : ℕ → CodegenData
fresh n = record { instrs = []; numbers = []; strings = []; values = 0; names = replicate n none }

-- a tree's annotated lines, and the registers
unfoldable pub annotate : Tree → Script × CodegenData
unfolding annotateLines fresh
annotate t = annotateLines t.lines (fresh (length t.names))
