-- What the structs and enums of the code say in the words of `rules`.
use Rattle.std.specs.Prelude.{◌≡◌, Bool, List, [], ◌∷◌, ℕ, length, take, Option as Answer, Some, None}
use Rattle.std.proofs.Math.Option.{Option, none, some}
use Rattle.rules.specs.Instr.{Instruction as Ins, ins₁, ins₂, Kind, unused, num, str, val, place, Row, kinds}
use Rattle.rules.specs.Opcode.{CopyNum, CopyStr}
use Rattle.rules.specs.Word.{insWord, wordIns}
use Rattle.rules.specs.Replace.{Rule, stays, goes, turns, number, result, blank, Regs, addNumber, addBlank}
use Rattle.words.specs.declared.instr.Kind.{Kind as Field}
use Rattle.words.specs.declared.instr.Kind.TheVariants.{Unused, Num, Str, Val, Place}
use Rattle.words.specs.declared.instr.Flow.{Flow}
use Rattle.words.specs.declared.instr.Flow.TheVariants.{Nothing, Tested, Itself, FromTo, Two, Compared}
use Rattle.words.specs.declared.instr.Fields.{Fields}
use Rattle.words.specs.declared.instr.Section.{Section}
use Rattle.words.specs.declared.instr.AnyReg.{AnyReg}
use Rattle.words.specs.declared.instr.AnyReg.TheVariants.{Num as NumR, Str as StrR, Val as ValR}
use Rattle.words.specs.declared.instr.Reads.{Reads}
use Rattle.words.specs.declared.instr.DupRule.{DupRule}
use Rattle.words.specs.declared.instr.DupRule.TheVariants.{Stays, Goes, Turns, Number, Result, Blank}
use Rattle.words.specs.declared.instr.Replaced.{Replaced}
use Rattle.words.specs.declared.instr.Replaced.TheVariants.{Stays as Kept, Goes as Gone, Turns as Turned, Number as Numbered, Blank as Blanked}

-- ---- fields

abbrev pub kindTold : Field → Kind
kindTold Unused = unused
kindTold Num = num
kindTold Str = str
kindTold Val = val
kindTold Place = place

-- the places of the fields that are read, and of the one that is modified
abbrev pub flowReads : Flow → List ℕ
flowReads Nothing = []
flowReads Tested = 1 ∷ []
flowReads Itself = 0 ∷ []
flowReads FromTo = 0 ∷ []
flowReads Two = 0 ∷ 1 ∷ []
flowReads Compared = 0 ∷ 1 ∷ []

abbrev pub flowModifies : Flow → Option ℕ
flowModifies Nothing = none
flowModifies Tested = none
flowModifies Itself = some 0
flowModifies FromTo = some 1
flowModifies Two = some 0
flowModifies Compared = some 2

-- an opcode whose three fields are of these kinds
abbrev pub Shape : ℕ → Kind → Kind → Kind → Type 0
Shape o a b c = kinds o ≡ some (a, b, c)

-- an opcode's row of the table
abbrev pub fieldsTold : Answer Fields → Option Row
fieldsTold (Some f) = some (record { kinds = (kindTold f.0, kindTold f.1, kindTold f.2); reads = flowReads f.3; modifies = flowModifies f.3 })
fieldsTold None = none

abbrev pub kindsTold : Answer Fields → Option (Kind × Kind × Kind)
kindsTold (Some f) = some (kindTold f.0, kindTold f.1, kindTold f.2)
kindsTold None = none

-- ---- registers

abbrev pub regTold : AnyReg → Kind × ℕ
regTold (NumR r) = (num, r.0)
regTold (StrR r) = (str, r.0)
regTold (ValR r) = (val, r.0)

-- the kind of register that a field of a kind is taken for
abbrev pub regKind : Kind → Kind
regKind unused = num
regKind num = num
regKind str = str
regKind val = val
regKind place = num

-- how many registers, and which: what stands behind the count says nothing
abbrev pub readsTold : Reads → ℕ × List (Kind × ℕ)
readsTold r = (r.count, take r.count (regTold r.first ∷ regTold r.second ∷ []))

abbrev pub counted : List (Kind × ℕ) → ℕ × List (Kind × ℕ)
counted l = (length l, l)

abbrev pub nothing : List (Kind × ℕ)
nothing = []

abbrev pub just : Kind × ℕ → List (Kind × ℕ)
just a = a ∷ []

abbrev pub both : Kind × ℕ → Kind × ℕ → List (Kind × ℕ)
both a b = a ∷ b ∷ []

abbrev pub modifiedTold : Answer AnyReg → Option (Kind × ℕ)
modifiedTold (Some r) = some (regTold r)
modifiedTold None = none

-- ---- jumps

abbrev pub targetTold : Answer Section → Option ℕ
targetTold (Some s) = some s.0
targetTold None = none

abbrev pub packed : Bool × Ins → Bool × ℕ
packed r = (r.0, insWord r.1)

-- ---- replacement

abbrev pub ruleTold : DupRule → Rule
ruleTold Stays = stays
ruleTold Goes = goes
ruleTold (Turns o) = turns o
ruleTold (Number z) = number z.0
ruleTold (Result z) = result z.0
ruleTold Blank = blank

-- what a rule makes of an instruction
abbrev pub replacedOf : Rule → Ins → Replaced
replacedOf stays i = Kept
replacedOf goes i = Gone
replacedOf (turns o) i = Turned (record { 0 = insWord (ins₁ o i.fst) })
replacedOf (number z) i = Numbered (record { 0 = z }) (record { 0 = i.fst })
replacedOf (result z) i = Numbered (record { 0 = z }) (record { 0 = i.thd })
replacedOf blank i = Blanked (record { 0 = i.fst })

-- what becomes of the instruction i and of the registers r by the answer; p is the pool's length
abbrev pub replacedBy : ℕ → Regs → Ins → Replaced → List Ins × Regs
replacedBy p r i Kept = (i ∷ [], r)
replacedBy p r i Gone = ([], r)
replacedBy p r i (Turned w) = (wordIns w.0 ∷ [], r)
replacedBy p r i (Numbered z n) = (ins₂ CopyNum (length r.numbers) n.0 ∷ [], addNumber z.0 r)
replacedBy p r i (Blanked s) = (ins₂ CopyStr (length r.strings) s.0 ∷ [], addBlank p r)
