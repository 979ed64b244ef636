-- The steps of `rules` (Operators) as steps one after another: each by its definition. Assumes nothing.
use mathlib.Core.Path.{◌≡◌, refl}
use Prim.Native.Nat.{ℕ}
use lib.IntN.{pos}
use Rattle.rules.specs.Opcode as Op
use Rattle.rules.specs.Instr.{ins₁, ins₂, ins₃, canRuntimeErr}
use mathlib.Core.Bool.{Bool}
use Rattle.rules.specs.CodegenData.{pure, emit, newNum, newVal}
use Rattle.rules.specs.Operators.{errorJump, getVariable, makeTruthy, numberify, makeVal, makeLogicBinop, guard, makeArithBinop, makeCmpBinop, makeNe, applyInPlace, makeNot, applyInNumber, incdecOp, codegenIncdec}
use Rattle.codegen.specs.Does.{◌▷◌, makeNum}

pub as-num : (o r : ℕ) → makeNum o r ≡ (newNum (pos 0) ▷ λ n. emit (ins₂ o r n) ▷ λ _. pure n)
unfolding makeNum ◌▷◌
as-num o r = refl

pub as-numberify : (r : ℕ) → numberify r ≡ (makeNum Op.NumberifyVal r ▷ λ n. emit errorJump ▷ λ _. pure n)
unfolding numberify makeNum ◌▷◌
as-numberify r = refl

pub as-val : (o r : ℕ) → makeVal o r ≡ (newVal ▷ λ v. emit (ins₂ o r v) ▷ λ _. pure v)
unfolding makeVal ◌▷◌
as-val o r = refl

pub as-logic : (o l r : ℕ) → makeLogicBinop o l r ≡ (makeTruthy r ▷ λ m. makeTruthy l ▷ λ n. emit (ins₂ o n m) ▷ λ _. makeVal Op.ValueifyNum n)
unfolding makeLogicBinop ◌▷◌
as-logic o l r = refl

pub as-arith : (o l r : ℕ) → makeArithBinop o l r ≡ (numberify r ▷ λ m. numberify l ▷ λ n. (emit (ins₂ o n m) ▷ λ _. guard (canRuntimeErr o)) ▷ λ _. makeVal Op.ValueifyNum n)
unfolding makeArithBinop ◌▷◌
as-arith o l r = refl

pub as-cmp : (o l r : ℕ) → makeCmpBinop o l r ≡ (newNum (pos 0) ▷ λ n. emit (ins₃ o l r n) ▷ λ _. makeVal Op.ValueifyNum n)
unfolding makeCmpBinop ◌▷◌
as-cmp o l r = refl

pub as-ne : (l r : ℕ) → makeNe l r ≡ (newNum (pos 0) ▷ λ n. emit (ins₃ Op.Eq l r n) ▷ λ _. emit (ins₁ Op.NotNum n) ▷ λ _. makeVal Op.ValueifyNum n)
unfolding makeNe ◌▷◌
as-ne l r = refl

pub as-in-place : (o l r : ℕ) → applyInPlace o l r ≡ (emit (ins₂ o l r) ▷ λ _. pure l)
unfolding applyInPlace ◌▷◌
as-in-place o l r = refl

pub as-not : (r : ℕ) → makeNot r ≡ (makeNum Op.NotVal r ▷ λ n. makeVal Op.ValueifyNum n)
unfolding makeNot makeNum ◌▷◌
as-not r = refl

pub as-in-number : (o r : ℕ) → applyInNumber o r ≡ (numberify r ▷ λ n. emit (ins₁ o n) ▷ λ _. makeVal Op.ValueifyNum n)
unfolding applyInNumber ◌▷◌
as-in-number o r = refl

pub as-incdec : (i : Bool) (x : ℕ) → codegenIncdec i x ≡ (getVariable x ▷ λ v. emit (ins₁ (incdecOp i) v) ▷ λ _. emit errorJump ▷ λ _. pure v)
unfolding codegenIncdec ◌▷◌
as-incdec i x = refl
