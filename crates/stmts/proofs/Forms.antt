-- Statements' own instructions in `rules` (Annotate) as steps one after another: each by its definition. Assumes nothing.
use mathlib.Core.Path.{◌≡◌, refl}
use Prim.Native.Nat.{ℕ}
use Rattle.rules.specs.Opcode as Op
use Rattle.rules.specs.Instr.{ins₂}
use Rattle.rules.specs.Tree.{Assignop, Expr}
use Rattle.rules.specs.CodegenData.{Lower, emit}
use Rattle.rules.specs.Operators.{getVariable, makeTruthy, numberify}
use Rattle.rules.specs.Annotate.{codegenFromExpr, store, assignBy, codegenFromAssign, condition, lineNumber}
use Rattle.codegen.specs.Does.{◌▷◌}

pub as-store : (m : Lower ℕ) (v : ℕ) → store m v ≡ (m ▷ λ o. emit (ins₂ Op.CopyVal o v))
unfolding store ◌▷◌
as-store m v = refl

pub as-assign : (x : ℕ) (o : Assignop) (e : Expr) → codegenFromAssign x o e ≡ (codegenFromExpr e ▷ λ r. getVariable x ▷ λ v. assignBy o v r)
unfolding codegenFromAssign ◌▷◌
as-assign x o e = refl

pub as-condition : (e : Expr) → condition e ≡ (codegenFromExpr e ▷ λ r. makeTruthy r)
unfolding condition ◌▷◌
as-condition e = refl

pub as-line : (e : Expr) → lineNumber e ≡ (codegenFromExpr e ▷ λ r. numberify r)
unfolding lineNumber ◌▷◌
as-line e = refl
