-- When an instruction, a section and a string fit their words.
use Rattle.std.specs.Prelude.{List, [], ◌∷◌, ℕ}
use Rattle.rules.specs.Constants.{instrLayout, sectionLayout, stringLayout}
use Rattle.rules.specs.Instr.{Instruction}
use Rattle.rules.specs.Word.{Run, Span}
use Rattle.laws.specs.Pack.{Small}

-- opcode below 64, fields below 65,536
abbrev pub insFields : Instruction → List ℕ
insFields i = i.op ∷ i.fst ∷ i.snd ∷ i.thd ∷ []

abbrev pub InsSmall : Instruction → Type 0
InsSmall i = Small instrLayout (insFields i)

-- two fields below 2, three below 65,536
abbrev pub runFields : Run → List ℕ
runFields r = r.lineStart ∷ r.kind ∷ r.target ∷ r.first ∷ r.count ∷ []

abbrev pub RunSmall : Run → Type 0
RunSmall r = Small sectionLayout (runFields r)

-- start below 65,536, size below 128
abbrev pub spanFields : Span → List ℕ
spanFields s = s.start ∷ s.size ∷ []

abbrev pub SpanSmall : Span → Type 0
SpanSmall s = Small stringLayout (spanFields s)
