-- A script and sections whose instructions are P and whose gotos go by registers that are G.
use Rattle.std.specs.Prelude.{List, [], ◌∷◌, ℕ}
use Rattle.rules.specs.Instr.{Instruction, shown}
use Rattle.rules.specs.Machine.{SectionOrLine, unfixed, section, line, SectionCode}
use Rattle.rules.specs.Script.{Stmts, nil, plain, goto, ite, Script}
use Rattle.rules.specs.Assemble.{condJump}
use Rattle.rules.specs.Preservation.{All}

-- ---- a script whose instructions are P, and whose gotos go by registers that are G; what stands behind a goto is not asked

abbrev pub CodeGood : (Instruction → Type 0) → List Instruction → Type 0
CodeGood P = All (λ i. P (shown i))

abbrev pub Good : (Instruction → Type 0) → (ℕ → Type 0) → Stmts → Type 0
Good P G nil = Unit {0}
Good P G (plain o s) = CodeGood P o × Good P G s
Good P G (goto o r s) = CodeGood P o × G r
Good P G (ite o c t u s) = CodeGood P o × P (condJump 0 c) × Good P G t × Good P G u × Good P G s

abbrev pub GoodTree : (Instruction → Type 0) → (ℕ → Type 0) → Script → Type 0
GoodTree P G [] = Unit {0}
GoodTree P G (s ∷ t) = Good P G s × GoodTree P G t

-- ---- the same of every statement, and of a section

abbrev pub GoodWhole : (Instruction → Type 0) → (ℕ → Type 0) → Stmts → Type 0
GoodWhole P G nil = Unit {0}
GoodWhole P G (plain o s) = CodeGood P o × GoodWhole P G s
GoodWhole P G (goto o r s) = CodeGood P o × G r × GoodWhole P G s
GoodWhole P G (ite o c t u s) = CodeGood P o × P (condJump 0 c) × GoodWhole P G t × GoodWhole P G u × GoodWhole P G s

abbrev pub NextGood : (ℕ → Type 0) → SectionOrLine → Type 0
NextGood G unfixed = Unit {0}
NextGood G (section t) = Unit {0}
NextGood G (line r) = G r

abbrev pub SectGood : (Instruction → Type 0) → (ℕ → Type 0) → SectionCode → Type 0
SectGood P G s = CodeGood P s.instrs × NextGood G s.success
