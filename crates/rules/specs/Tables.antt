-- Machine words: which tables of words hold a machine (the rules whose breach is 12), the machine that they hold, and the words of a machine.
use Rattle.std.specs.Prelude.{Bool, true, false, not, ◌&&◌, ◌||◌, List, [], ◌∷◌, ◌++◌, map, ℕ, suc, ◌+◌, leb, ltb, eqb, ℤ, length, take, drop}
use Rattle.std.proofs.Math.Option.{none, some}
use Rattle.rules.specs.Constants.{mark, mostLines, mostCount}
use Rattle.rules.specs.Refusal as Refusal
use Rattle.rules.specs.Bits.{Res, refused, ok, isOne}
use Rattle.rules.specs.Instr.{Instruction, Kind, unused, num, str, val, place, kinds}
use Rattle.rules.specs.Word.{insWord, wordIns, insSpare, Run, runWord, wordRun, runSpare, spanWord, wordSpan, spanSpare}
use Rattle.rules.specs.Machine.{SectionOrLine, unfixed, section, line, SectionCode, isFixed, Machine}

-- the tables that a caller lends
pub record Tables : Type 0 where
  pub sections : List ℕ
  pub instrs : List ℕ
  pub numbers : List ℤ
  pub strings : List ℕ
  pub pool : List ℕ
  pub names : List ℕ

-- the eight counts of a machine: its lines, how much of each table is in use (of the pool: characters), its value registers, which have no table,
-- and its names
pub record Counts : Type 0 where
  pub lines : ℕ
  pub sections : ℕ
  pub instrs : ℕ
  pub numbers : ℕ
  pub strings : ℕ
  pub pool : ℕ
  pub values : ℕ
  pub names : ℕ

-- ---- the rules

-- does every element pass?
unfoldable pub allb : {A : Type 0} → (A → Bool) → List A → Bool
allb p [] = true
allb p (x ∷ xs) = elim (p x) [ false ↦ false | true ↦ allb p xs ]

-- a field of a kind: a register below its table's count, a section below theirs, an unused field 0
unfoldable pub fieldFits : Counts → Kind → ℕ → Bool
fieldFits u unused n = eqb n 0
fieldFits u num n = ltb n u.numbers
fieldFits u str n = ltb n u.strings
fieldFits u val n = ltb n u.values
fieldFits u place n = ltb n u.sections

-- an instruction's word: an opcode with its fields, and the other bits zero
unfoldable pub insFits : Counts → ℕ → Bool
unfolding kinds wordIns insSpare fieldFits
insFits u w =
    let i = wordIns w in
    elim (kinds i.op) [
      | none ↦ false
      | some k ↦ eqb (insSpare w) 0 && fieldFits u k.0 i.fst && fieldFits u k.1 i.snd && fieldFits u k.2 i.thd
    ]

-- a section word's successor: by kind and target, 65,535 with kind 0 is unfixed
unfoldable pub successOf : Run → SectionOrLine
unfolding isOne
successOf r = elim (isOne r.kind) [ true ↦ line r.target | false ↦ elim (eqb r.target mark) [ true ↦ unfixed | false ↦ section r.target ] ]

-- a successor lies below the section count or is unfixed; a goto's register below the numbers'
unfoldable pub successFits : Counts → SectionOrLine → Bool
successFits u (section t) = ltb t u.sections
successFits u (line n) = ltb n u.numbers
successFits u unfixed = true

-- sections 0 to L-1 are line starts; a later section is one only if it is unfixed and has no instructions
unfoldable pub startFits : Counts → ℕ → Run → Bool
unfolding isOne successOf
startFits u i r = elim (ltb i u.lines) [ true ↦ isOne r.lineStart | false ↦ not (isOne r.lineStart) || not (isFixed (successOf r)) && eqb r.count 0 ]

-- sections from number i on, whose runs stand end to end from instruction k and cover the counted ones
unfoldable pub runsFit : Counts → ℕ → ℕ → List ℕ → Bool
unfolding wordRun runSpare startFits successFits successOf
runsFit u i k [] = eqb k u.instrs
runsFit u i k (w ∷ ws) =
    let r = wordRun w in
    elim (eqb (runSpare w) 0 && eqb r.first k && successFits u (successOf r) && startFits u i r) [ false ↦ false | true ↦ runsFit u (suc i) (k + r.count) ws ]

-- a string's word: inside the pool, and the other bits zero
unfoldable pub spanFits : Counts → ℕ → Bool
unfolding wordSpan spanSpare
spanFits u w = let t = wordSpan w in eqb (spanSpare w) 0 && leb (t.start + t.size) u.pool

-- a name's word: a value register or 65,535
unfoldable pub nameFits : Counts → ℕ → Bool
nameFits u n = eqb n mark || ltb n u.values

-- a count is at most 65,535 and no more than the lent table holds
unfoldable pub countFits : {A : Type 0} → ℕ → List A → Bool
countFits n t = leb n mostCount && leb n (length t)

-- all counts; L is 1 to 255, and its sections are there
unfoldable pub countsFit : Tables → Counts → Bool
unfolding countFits
countsFit t u =
    ltb 0 u.lines && leb u.lines mostLines && leb u.lines u.sections && leb u.values mostCount
    && countFits u.sections t.sections && countFits u.instrs t.instrs && countFits u.numbers t.numbers
    && countFits u.strings t.strings && countFits u.pool t.pool && countFits u.names t.names

-- all counted words
unfoldable pub wordsFit : Tables → Counts → Bool
unfolding allb insFits runsFit spanFits nameFits
wordsFit t u =
    allb (insFits u) (take u.instrs t.instrs) && runsFit u 0 0 (take u.sections t.sections)
    && allb (spanFits u) (take u.strings t.strings) && allb (nameFits u) (take u.names t.names)

-- the rules of a machine, as a decision
unfoldable pub fits : Tables → Counts → Bool
unfolding countsFit wordsFit
fits t u = elim (countsFit t u) [ false ↦ false | true ↦ wordsFit t u ]

-- ---- words read

-- sections from their words, and the instruction words that are left for them
unfoldable pub readSections : List ℕ → List ℕ → List SectionCode
unfolding wordRun wordIns successOf isOne
readSections [] is = []
readSections (w ∷ ws) is =
    let r = wordRun w in
    record { lineStart = isOne r.lineStart; instrs = map wordIns (take r.count is); success = successOf r } ∷ readSections ws (drop r.count is)

-- the machine that the tables hold, or 12 where they break a rule
unfoldable pub decode : Tables → Counts → Res Machine
unfolding fits readSections wordSpan
decode t u = elim (fits t u) [
  | false ↦ refused Refusal.breaksRules
  | true ↦ ok (record {
    lines = u.lines;
    sections = readSections (take u.sections t.sections) (take u.instrs t.instrs);
    numbers = take u.numbers t.numbers;
    strings = map wordSpan (take u.strings t.strings);
    pool = take u.pool t.pool;
    values = u.values;
    names = take u.names t.names;
  })
]

-- ---- words written

-- a flag's field
unfoldable pub flag : Bool → ℕ
flag true = 1
flag false = 0

-- a successor's kind and target
unfoldable pub kindOf : SectionOrLine → ℕ
kindOf (section t) = 0
kindOf (line n) = 1
kindOf unfixed = 0

unfoldable pub targetOf : SectionOrLine → ℕ
targetOf (section t) = t
targetOf (line n) = n
targetOf unfixed = mark

-- the fields of a section's word: whether it starts a line, its successor, and count instructions from number first on
abbrev pub runOf : Bool → SectionOrLine → ℕ → ℕ → Run
runOf starts success first count = record { lineStart = flag starts; kind = kindOf success; target = targetOf success; first = first; count = count }

-- of a section whose first instruction is number k
abbrev pub sectionRun : SectionCode → ℕ → Run
sectionRun s k = runOf s.lineStart s.success k (length s.instrs)

-- sections' words, the first of which begins at instruction k
unfoldable pub runWords : ℕ → List SectionCode → List ℕ
unfolding flag kindOf targetOf runWord
runWords k [] = []
runWords k (s ∷ ss) = runWord (sectionRun s k) ∷ runWords (k + length s.instrs) ss

-- the instructions of all sections, in order
unfoldable pub allCode : List SectionCode → List Instruction
allCode [] = []
allCode (s ∷ ss) = s.instrs ++ allCode ss

-- the words of a machine
unfoldable pub encode : Machine → Tables
unfolding runWords allCode insWord spanWord
encode m = record {
  sections = runWords 0 m.sections;
  instrs = map insWord (allCode m.sections);
  numbers = m.numbers;
  strings = map spanWord m.strings;
  pool = m.pool;
  names = m.names;
}

-- the counts of a machine
unfoldable pub countsOf : Machine → Counts
unfolding allCode
countsOf m = record {
  lines = m.lines;
  sections = length m.sections;
  instrs = length (allCode m.sections);
  numbers = length m.numbers;
  strings = length m.strings;
  pool = length m.pool;
  values = m.values;
  names = length m.names;
}
