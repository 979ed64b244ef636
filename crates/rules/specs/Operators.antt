-- The small steps of codegen.rs: what is emitted for an operator on value registers.
use Rattle.std.specs.Prelude.{Bool, true, false, ℕ, pos, get_or}
use Rattle.std.proofs.Math.Option.{none, some}
use Rattle.rules.specs.Tree.{Binop, Unop}
use Rattle.rules.specs.Tree.{And, Or, Add, Sub, Mul, Div, Mod, Pow, Eq, Ne, Le, Lt, Ge, Gt}
use Rattle.rules.specs.Tree.{Neg, Not, Abs, Sqrt, Fact, Sin, Cos, Tan, Asin, Acos, Atan}
use Rattle.rules.specs.Instr.{Instruction, ins₁, ins₂, ins₃, canRuntimeErr}
use Rattle.rules.specs.Opcode as Op
use Rattle.rules.specs.CodegenData.{Lower, pure, ◌>>=◌, ◌>>◌, emit, newNum, newVal, bindName}

-- an error jump; its target is left aside until its statement stands in a line
abbrev pub errorJump : Instruction
errorJump = ins₁ Op.JumpIfError 0

-- ---- registers

-- a name's value register: a new one where it is met for the first time
unfoldable pub getVariable : ℕ → Lower ℕ
getVariable x g = elim (get_or g.names x none) [ some v ↦ (v, g) | none ↦ bindName x g ]

-- a copy of a value register
unfoldable pub copyValreg : ℕ → Lower ℕ
copyValreg r = do
  v ← newVal
  emit (ins₂ Op.CopyVal r v)
  pure v

-- whether a value is truthy, as a number
unfoldable pub makeTruthy : ℕ → Lower ℕ
makeTruthy r = do
  n ← newNum (pos 0)
  emit (ins₂ Op.IsTruthyVal r n)
  pure n

-- a value as a number, or an error
unfoldable pub numberify : ℕ → Lower ℕ
numberify r = do
  n ← newNum (pos 0)
  emit (ins₂ Op.NumberifyVal r n)
  emit errorJump
  pure n

-- a number or string register (by the opcode) as a value
unfoldable pub makeVal : ℕ → ℕ → Lower ℕ
makeVal op r = do
  v ← newVal
  emit (ins₂ op r v)
  pure v

-- ---- binary operators on value registers l and r; each gives the result's

-- And, Or: right is made truthy before left
unfoldable pub makeLogicBinop : ℕ → ℕ → ℕ → Lower ℕ
unfolding makeTruthy makeVal
makeLogicBinop op l r = do
  m ← makeTruthy r
  n ← makeTruthy l
  emit (ins₂ op n m)
  makeVal Op.ValueifyNum n

-- an error jump behind an instruction that may fail
unfoldable pub guard : Bool → Lower ℕ
guard true = emit errorJump
guard false = pure 0

-- Mul, Div, Rem, Pow: right is numberified before left
unfoldable pub makeArithBinop : ℕ → ℕ → ℕ → Lower ℕ
unfolding numberify guard canRuntimeErr makeVal
makeArithBinop op l r = do
  m ← numberify r
  n ← numberify l
  emit (ins₂ op n m)
  guard (canRuntimeErr op)
  makeVal Op.ValueifyNum n

-- Eq, Le, Lt
unfoldable pub makeCmpBinop : ℕ → ℕ → ℕ → Lower ℕ
unfolding makeVal
makeCmpBinop op l r = do
  n ← newNum (pos 0)
  emit (ins₃ op l r n)
  makeVal Op.ValueifyNum n

-- Ne: Eq, then NotNum
unfoldable pub makeNe : ℕ → ℕ → Lower ℕ
unfolding makeVal
makeNe l r = do
  n ← newNum (pos 0)
  emit (ins₃ Op.Eq l r n)
  emit (ins₁ Op.NotNum n)
  makeVal Op.ValueifyNum n

-- AddVal, SubVal: into the left operand's register, without an error jump
unfoldable pub applyInPlace : ℕ → ℕ → ℕ → Lower ℕ
applyInPlace op l r = do
  emit (ins₂ op l r)
  pure l

-- Ge is Le with right and left exchanged, Gt so with Lt
unfoldable pub applyBinop : Binop → ℕ → ℕ → Lower ℕ
unfolding makeLogicBinop makeArithBinop makeCmpBinop makeNe applyInPlace
applyBinop And l r = makeLogicBinop Op.And l r
applyBinop Or l r = makeLogicBinop Op.Or l r
applyBinop Add l r = applyInPlace Op.AddVal l r
applyBinop Sub l r = applyInPlace Op.SubVal l r
applyBinop Mul l r = makeArithBinop Op.Mul l r
applyBinop Div l r = makeArithBinop Op.Div l r
applyBinop Mod l r = makeArithBinop Op.Rem l r
applyBinop Pow l r = makeArithBinop Op.Pow l r
applyBinop Eq l r = makeCmpBinop Op.Eq l r
applyBinop Ne l r = makeNe l r
applyBinop Le l r = makeCmpBinop Op.Le l r
applyBinop Lt l r = makeCmpBinop Op.Lt l r
applyBinop Ge l r = makeCmpBinop Op.Le r l
applyBinop Gt l r = makeCmpBinop Op.Lt r l

-- ---- unary operators

-- Not: of a value, without numberifying
unfoldable pub makeNot : ℕ → Lower ℕ
unfolding makeVal
makeNot r = do
  n ← newNum (pos 0)
  emit (ins₂ Op.NotVal r n)
  makeVal Op.ValueifyNum n

-- the others: of a number, in its register
unfoldable pub applyInNumber : ℕ → ℕ → Lower ℕ
unfolding numberify makeVal
applyInNumber op r = do
  n ← numberify r
  emit (ins₁ op n)
  makeVal Op.ValueifyNum n

unfoldable pub applyUnop : Unop → ℕ → Lower ℕ
unfolding makeNot applyInNumber
applyUnop Neg r = applyInNumber Op.Neg r
applyUnop Not r = makeNot r
applyUnop Abs r = applyInNumber Op.Abs r
applyUnop Sqrt r = applyInNumber Op.Sqrt r
applyUnop Fact r = applyInNumber Op.Fact r
applyUnop Sin r = applyInNumber Op.Sin r
applyUnop Cos r = applyInNumber Op.Cos r
applyUnop Tan r = applyInNumber Op.Tan r
applyUnop Asin r = applyInNumber Op.Asin r
applyUnop Acos r = applyInNumber Op.Acos r
applyUnop Atan r = applyInNumber Op.Atan r

-- ---- Incdec, as a statement and as an expression

unfoldable pub incdecOp : Bool → ℕ
incdecOp true = Op.IncVal
incdecOp false = Op.DecVal

-- the name's own register is changed and handed back; an error jump follows
unfoldable pub codegenIncdec : Bool → ℕ → Lower ℕ
unfolding getVariable incdecOp
codegenIncdec inc x = do
  v ← getVariable x
  emit (ins₁ (incdecOp inc) v)
  emit errorJump
  pure v
