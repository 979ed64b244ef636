-- Replacement of duplicate operands, `dup_replace_with`: of instructions whose first two fields are one register.
use Rattle.std.specs.Prelude.{Bool, true, false, List, [], ◌∷◌, ◌++◌, ℕ, eqb, ℤ, pos, length}
use Rattle.rules.specs.Instr.{Instruction, ins₁, ins₂}
use Rattle.rules.specs.Word.{Span}
use Rattle.rules.specs.Opcode as Op
use Rattle.rules.specs.Constants.{one}
use Rattle.rules.specs.Machine.{SectionCode, Machine}

-- what becomes of such an instruction: it stays; it goes; it is another opcode on the register; it is a copy of an added number into the
-- register (its first field) or into the result (its third); it is a copy of an added empty string
pub data Rule : Type 0 where
  stays : Rule
  goes : Rule
  turns : ℕ → Rule
  number : ℤ → Rule
  result : ℤ → Rule
  blank : Rule

-- the rules by opcode
unfoldable pub rules : List (ℕ × Rule)
rules =
    (Op.CopyNum, goes) ∷ (Op.CopyStr, goes) ∷ (Op.CopyVal, goes)
    ∷ (Op.AddNum, turns Op.AddSelfNum) ∷ (Op.AddStr, turns Op.AddSelfStr) ∷ (Op.AddVal, turns Op.AddSelfVal)
    ∷ (Op.SubNum, number (pos 0)) ∷ (Op.SubStr, blank) ∷ (Op.SubVal, turns Op.SubSelfVal)
    ∷ (Op.Mul, turns Op.MulSelf) ∷ (Op.Div, turns Op.DivSelf) ∷ (Op.Rem, turns Op.RemSelf) ∷ (Op.Pow, turns Op.PowSelf)
    ∷ (Op.Eq, result (pos one)) ∷ (Op.Le, result (pos one)) ∷ (Op.Lt, result (pos 0))
    ∷ (Op.And, turns Op.IsTruthyNum) ∷ (Op.Or, turns Op.IsTruthyNum) ∷ []

-- an opcode without a rule stays
unfoldable pub lookup : ℕ → List (ℕ × Rule) → Rule
lookup o [] = stays
lookup o (r ∷ rs) = elim (eqb o r.0) [ true ↦ r.1 | false ↦ lookup o rs ]

-- without a duplicate (false) everything stays
abbrev pub ruleFor : Bool → ℕ → Rule
ruleFor true o = lookup o rules
ruleFor false o = stays

-- an instruction's rule
abbrev pub ruleOf : Instruction → Rule
ruleOf i = ruleFor (eqb i.fst i.snd) i.op

-- the number and string registers so far
pub record Regs : Type 0 where
  pub numbers : List ℤ
  pub strings : List Span

-- an added number has the next register
abbrev pub addNumber : ℤ → Regs → Regs
addNumber z r = record { numbers = r.numbers ++ (z ∷ []); strings = r.strings }

-- an added string has length 0 and the pool's length p as its start
abbrev pub addBlank : ℕ → Regs → Regs
addBlank p r = record { numbers = r.numbers; strings = r.strings ++ (record { start = p; size = 0 } ∷ []) }

-- what becomes of an instruction by a rule, and the registers behind it; p is the pool's length
abbrev pub replaceBy : ℕ → Rule → Regs → Instruction → List Instruction × Regs
replaceBy p stays r i = (i ∷ [], r)
replaceBy p goes r i = ([], r)
replaceBy p (turns o) r i = (ins₁ o i.fst ∷ [], r)
replaceBy p (number z) r i = (ins₂ Op.CopyNum (length r.numbers) i.fst ∷ [], addNumber z r)
replaceBy p (result z) r i = (ins₂ Op.CopyNum (length r.numbers) i.thd ∷ [], addNumber z r)
replaceBy p blank r i = (ins₂ Op.CopyStr (length r.strings) i.fst ∷ [], addBlank p r)

-- one instruction
abbrev pub replaceIns : ℕ → Regs → Instruction → List Instruction × Regs
replaceIns p r i = replaceBy p (ruleOf i) r i

-- instructions in order
abbrev pub replaceCode : ℕ → Regs → List Instruction → List Instruction × Regs
replaceCode p r [] = ([], r)
replaceCode p r (i ∷ c) =
    let x = replaceIns p r i in
    let y = replaceCode p x.1 c in
    (x.0 ++ y.0, y.1)

-- a section with other instructions
abbrev pub withCode : SectionCode → List Instruction → SectionCode
withCode s c = record { lineStart = s.lineStart; instrs = c; success = s.success }

-- sections in order
abbrev pub replaceSections : ℕ → Regs → List SectionCode → List SectionCode × Regs
replaceSections p r [] = ([], r)
replaceSections p r (s ∷ m) =
    let x = replaceCode p r s.instrs in
    let y = replaceSections p x.1 m in
    (withCode s x.0 ∷ y.0, y.1)

-- a machine
unfoldable pub replaced : Machine → Machine
unfolding rules lookup
replaced m =
    let x = replaceSections (length m.pool) (record { numbers = m.numbers; strings = m.strings }) m.sections in
    record { lines = m.lines; sections = x.0; numbers = x.1.numbers; strings = x.1.strings; pool = m.pool; values = m.values; names = m.names }
