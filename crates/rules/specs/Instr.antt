-- An instruction: an opcode and three fields. What instr.rs says of it: the kind of each field, what is read and modified, which instructions
-- jump, and what becomes of it where a register or a section is removed.
use Rattle.std.specs.Prelude.{Bool, true, false, cond, ◌||◌, ◌&&◌, List, [], ◌∷◌, map, ℕ, zero, suc, pred, leb, ltb, eqb}
use Rattle.std.proofs.Math.Option.{Option, none, some}
use Rattle.std.proofs.Math.ListN.{get_elem?}
use Rattle.rules.specs.Opcode as Op

-- a field that the opcode does not use is 0
pub record Instruction : Type 0 where
  pub op : ℕ
  pub fst : ℕ
  pub snd : ℕ
  pub thd : ℕ

-- instructions with one, two, three fields
abbrev pub ins₁ : ℕ → ℕ → Instruction
ins₁ o a = record { op = o; fst = a; snd = 0; thd = 0 }

abbrev pub ins₂ : ℕ → ℕ → ℕ → Instruction
ins₂ o a b = record { op = o; fst = a; snd = b; thd = 0 }

abbrev pub ins₃ : ℕ → ℕ → ℕ → ℕ → Instruction
ins₃ o a b c = record { op = o; fst = a; snd = b; thd = c }

-- ---- the fields of each opcode

-- what a field holds: nothing, a number, string or value register, or a section
pub data Kind : Type 0 where
  unused num str val place : Kind

-- kinds as numbers
unfoldable pub kindNumber : Kind → ℕ
kindNumber unused = 0
kindNumber num = 1
kindNumber str = 2
kindNumber val = 3
kindNumber place = 4

-- an opcode's row: the kinds of its fields; the fields read, in order, and the field modified, by their places 0, 1, 2
pub record Row : Type 0 where
  pub kinds : Kind × Kind × Kind
  pub reads : List ℕ
  pub modifies : Option ℕ

-- from the first field into the second
unfoldable pub from-to : Kind → Kind → Row
from-to a b = record { kinds = (a, b, unused); reads = 0 ∷ []; modifies = some 1 }

-- of one field, into itself
unfoldable pub itself : Kind → Row
itself a = record { kinds = (a, unused, unused); reads = 0 ∷ []; modifies = some 0 }

-- of two fields, into the first
unfoldable pub two : Kind → Row
two a = record { kinds = (a, a, unused); reads = 0 ∷ 1 ∷ []; modifies = some 0 }

-- of two values, into a number
unfoldable pub test : Row
test = record { kinds = (val, val, num); reads = 0 ∷ 1 ∷ []; modifies = some 2 }

-- every opcode with its row, as declared
unfoldable pub opcodes : List (ℕ × Row)
unfolding from-to itself two test
opcodes =
    (Op.JumpSectionIf, record { kinds = (place, num, unused); reads = 1 ∷ []; modifies = none })
    ∷ (Op.JumpIfError, record { kinds = (place, unused, unused); reads = []; modifies = none })
    ∷ (Op.CopyNum, from-to num num)
    ∷ (Op.CopyStr, from-to str str)
    ∷ (Op.CopyVal, from-to val val)
    ∷ (Op.ValueifyNum, from-to num val)
    ∷ (Op.ValueifyStr, from-to str val)
    ∷ (Op.NumberifyVal, from-to val num)
    ∷ (Op.StringifyNum, from-to num str)
    ∷ (Op.StringifyVal, from-to val str)
    ∷ (Op.IsTruthyNum, itself num)
    ∷ (Op.IsTruthyVal, from-to val num)
    ∷ (Op.NotNum, itself num)
    ∷ (Op.NotVal, from-to val num)
    ∷ (Op.AddNum, two num)
    ∷ (Op.AddSelfNum, itself num)
    ∷ (Op.AddStr, two str)
    ∷ (Op.AddSelfStr, itself str)
    ∷ (Op.AddVal, two val)
    ∷ (Op.AddSelfVal, itself val)
    ∷ (Op.SubNum, two num)
    ∷ (Op.SubStr, two str)
    ∷ (Op.SubVal, two val)
    ∷ (Op.SubSelfVal, itself val)
    ∷ (Op.Mul, two num)
    ∷ (Op.MulSelf, itself num)
    ∷ (Op.Div, two num)
    ∷ (Op.DivSelf, itself num)
    ∷ (Op.Rem, two num)
    ∷ (Op.RemSelf, itself num)
    ∷ (Op.Pow, two num)
    ∷ (Op.PowSelf, itself num)
    ∷ (Op.Eq, test)
    ∷ (Op.Le, test)
    ∷ (Op.Lt, test)
    ∷ (Op.IncNum, itself num)
    ∷ (Op.IncStr, itself str)
    ∷ (Op.IncVal, itself val)
    ∷ (Op.DecNum, itself num)
    ∷ (Op.DecStr, itself str)
    ∷ (Op.DecVal, itself val)
    ∷ (Op.Abs, itself num)
    ∷ (Op.Fact, itself num)
    ∷ (Op.Sqrt, itself num)
    ∷ (Op.Sin, itself num)
    ∷ (Op.Cos, itself num)
    ∷ (Op.Tan, itself num)
    ∷ (Op.Asin, itself num)
    ∷ (Op.Acos, itself num)
    ∷ (Op.Atan, itself num)
    ∷ (Op.Neg, itself num)
    ∷ (Op.And, two num)
    ∷ (Op.Or, two num)
    ∷ []

-- the rows alone; an opcode's stands at its number (Examples: opcodes-in-order)
unfoldable pub table : List Row
unfolding opcodes
table = map (λ (r : ℕ × Row). r.1) opcodes

-- the kinds of an opcode's three fields; none for 53 and above
unfoldable pub kinds : ℕ → Option (Kind × Kind × Kind)
unfolding table
kinds o = elim (get_elem? table o) [ none ↦ none | some r ↦ some r.kinds ]

-- ---- registers

-- field i of an instruction with the kind that a row gives it
unfoldable pub register : Row → Instruction → ℕ → Kind × ℕ
register r i zero = (r.kinds.0, i.fst)
register r i (suc zero) = (r.kinds.1, i.snd)
register r i (suc (suc n)) = (r.kinds.2, i.thd)

-- `reads`: the registers read, in order
unfoldable pub reads : Instruction → List (Kind × ℕ)
unfolding table register
reads i = elim (get_elem? table i.op) [ none ↦ [] | some r ↦ map (register r i) r.reads ]

-- `modifies`: the register modified, if there is one
unfoldable pub modifies : Instruction → Option (Kind × ℕ)
unfolding table register
modifies i = elim (get_elem? table i.op) [ none ↦ none | some r ↦ elim r.modifies [ none ↦ none | some f ↦ some (register r i f) ] ]

-- `can_runtime_err`: may the opcode fail at run time?
unfoldable pub canRuntimeErr : ℕ → Bool
canRuntimeErr o = eqb o Op.NumberifyVal || eqb o Op.Div || eqb o Op.Rem || eqb o Op.DecStr || eqb o Op.DecVal

-- ---- jumps

-- opcodes 0 and 1 jump, to the section of the first field
abbrev pub isJump : Instruction → Bool
isJump i = leb i.op Op.JumpIfError

-- `get_section`: a jump's target
unfoldable pub getSection : Instruction → Option ℕ
getSection i = cond (isJump i) (some i.fst) none

-- a jump with the target t; any other instruction as it is
abbrev pub aimed : ℕ → Instruction → Instruction
aimed t i = record { op = i.op; fst = cond (isJump i) t i.fst; snd = i.snd; thd = i.thd }

-- an instruction as it is compared: a jump's target is left aside
abbrev pub shown : Instruction → Instruction
shown i = aimed 0 i

-- ---- removal: what stands above the removed number falls by one

abbrev pub fall : ℕ → ℕ → ℕ
fall n t = cond (ltb n t) (pred t) t

-- a field of the kind k falls, one of another kind stays
unfoldable pub fallOf : Kind → ℕ → Kind → ℕ → ℕ
unfolding kindNumber
fallOf k n l t = cond (eqb (kindNumber k) (kindNumber l)) (fall n t) t

-- `remove_reg`: register n of the kind k is gone
unfoldable pub removeReg : Kind → ℕ → Instruction → Instruction
unfolding kinds fallOf
removeReg k n i = elim (kinds i.op) [
  | none ↦ i
  | some l ↦ record { op = i.op; fst = fallOf k n l.0 i.fst; snd = fallOf k n l.1 i.snd; thd = fallOf k n l.2 i.thd }
]

-- `remove_section`: section n is gone
unfoldable pub removeSection : ℕ → Instruction → Instruction
removeSection n i = aimed (fall n i.fst) i

-- `checked_remove_section`: true, and no change, where it jumped there
unfoldable pub checkedRemoveSection : ℕ → Instruction → Bool × Instruction
unfolding removeSection
checkedRemoveSection n i = cond (isJump i && eqb i.fst n) (true, i) (false, removeSection n i)
