-- A machine: sections with their instructions and successors, registers, texts and names. Its words are in Tables.
use Rattle.std.specs.Prelude.{Bool, true, false, List, [], ℕ, ℤ}
use Rattle.rules.specs.Instr.{Instruction}
use Rattle.rules.specs.Word.{Span}

-- a successor: not fixed yet, a section, or the line that a number register says
pub data SectionOrLine : Type 0 where
  unfixed : SectionOrLine
  section : ℕ → SectionOrLine
  line : ℕ → SectionOrLine

-- a section: is it a line start, its instructions, its successor
pub record SectionCode : Type 0 where
  pub lineStart : Bool
  pub instrs : List Instruction
  pub success : SectionOrLine

-- a line's placeholder; it also stands at a number that no section has
abbrev pub absent : SectionCode
absent = record { lineStart = true; instrs = []; success = unfixed }

-- a successor that is fixed
abbrev pub isFixed : SectionOrLine → Bool
isFixed unfixed = false
isFixed (section t) = true
isFixed (line r) = true

-- lines, sections, number registers with what they start as, string registers with their texts' places, the text pool, the count of value
-- registers, and of each name its value register or 65,535
pub record Machine : Type 0 where
  pub lines : ℕ
  pub sections : List SectionCode
  pub numbers : List ℤ
  pub strings : List Span
  pub pool : List ℕ
  pub values : ℕ
  pub names : List ℕ

-- a machine with other sections
abbrev pub withSections : Machine → List SectionCode → Machine
withSections m ss = record { lines = m.lines; sections = ss; numbers = m.numbers; strings = m.strings; pool = m.pool; values = m.values; names = m.names }
