-- Expressions of `rules` (Annotate) as steps one after another: each by its definition. Assumes nothing.
use mathlib.Core.Path.{◌≡◌, refl}
use mathlib.Core.List.{List}
use Prim.Native.Nat.{ℕ}
use lib.IntN.{ℤ}
use Rattle.rules.specs.Opcode as Op
use Rattle.rules.specs.Tree.{Binop, Unop, Expr, binop, unop, number, string}
use Rattle.rules.specs.CodegenData.{newNum, newStr}
use Rattle.rules.specs.Operators.{copyValreg, makeVal, applyBinop, applyUnop}
use Rattle.rules.specs.Annotate.{codegenFromExpr}
use Rattle.codegen.specs.Does.{◌▷◌}

pub as-binop : (o : Binop) (l r : Expr) → codegenFromExpr (binop o l r) ≡ (codegenFromExpr r ▷ λ r₀. copyValreg r₀ ▷ λ r₁. codegenFromExpr l ▷ λ l₀. copyValreg l₀ ▷ λ l₁. applyBinop o l₁ r₁)
unfolding codegenFromExpr ◌▷◌
as-binop o l r = refl

pub as-unop : (o : Unop) (r : Expr) → codegenFromExpr (unop o r) ≡ (codegenFromExpr r ▷ λ r₀. copyValreg r₀ ▷ λ r₁. applyUnop o r₁)
unfolding codegenFromExpr ◌▷◌
as-unop o r = refl

pub as-number : (z : ℤ) → codegenFromExpr (number z) ≡ (newNum z ▷ λ n. makeVal Op.ValueifyNum n)
unfolding codegenFromExpr ◌▷◌
as-number z = refl

pub as-string : (t : List ℕ) → codegenFromExpr (string t) ≡ (newStr t ▷ λ k. makeVal Op.ValueifyStr k)
unfolding codegenFromExpr ◌▷◌
as-string t = refl
