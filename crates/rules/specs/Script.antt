-- A script: a tree's lines with each statement's own instructions. Lowering makes sections of it, and it is what the reading reads.
use Rattle.std.specs.Prelude.{Bool, true, false, List, ℕ}
use Rattle.rules.specs.Instr.{Instruction}

-- a list of statements: each constructor but `nil` is a statement and the list behind it; a goto with its number register, an ite with its
-- condition's, then-list and else-list. A jump among own instructions is an error jump; its target is left aside
pub data Stmts : Type 0 where
  nil : Stmts
  plain : List Instruction → Stmts → Stmts
  goto : List Instruction → ℕ → Stmts → Stmts
  ite : List Instruction → ℕ → Stmts → Stmts → Stmts → Stmts

-- a list for each line
abbrev pub Script : Type 0
Script = List Stmts

-- is the list empty?
abbrev pub isNil : Stmts → Bool
isNil nil = true
isNil (plain o s) = false
isNil (goto o r s) = false
isNil (ite o c t e s) = false
