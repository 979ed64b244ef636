-- What a step of the code does, in terms of the steps of `rules` (CodegenData). Lowering counts in `Counters` and writes into lent tables;
-- `Stands` says that counters and tables show a state of `rules`, and `Does` that they still do after the step. Definitions only.
use Rattle.std.specs.Prelude.{◌≡◌, List, ◌++◌, map, ℕ, ◌+◌, ◌<◌, ℤ, pos, length, get_or}
use Rattle.std.proofs.Math.Option.{Option, none, some}
use Rattle.std.proofs.lemmas.List.Edits.{sets}
use Rattle.rules.specs.Constants.{mark}
use Rattle.rules.specs.Instr.{Instruction, ins₂, aimed}
use Rattle.rules.specs.Word.{insWord, spanWord}
use Rattle.rules.specs.CodegenData.{CodegenData, Lower, pure, ◌>>=◌, ◌>>◌, emit, newNum}
use Rattle.rules.specs.Lowered.{spans, texts}
use Rattle.codegen.specs.declared.state.Counters.{Counters}

-- ---- words

-- an own instruction's word, where errors go to line e
abbrev pub wordTo : ℕ → Instruction → ℕ
wordTo e i = insWord (aimed e i)

-- a name's register while lowering runs, or 65,535
unfoldable pub regWord : Option ℕ → ℕ
regWord none = mark
regWord (some v) = v

-- ---- the lent tables that expressions are lowered into

pub record Lent : Type 0 where
  pub instrs : List ℕ
  pub numbers : List ℤ
  pub strings : List ℕ
  pub pool : List ℕ
  pub names : List ℕ

abbrev pub lent : List ℕ → List ℤ → List ℕ → List ℕ → List ℕ → Lent
lent is ns ss ps ms = record { instrs = is; numbers = ns; strings = ss; pool = ps; names = ms }

-- where it began: the tables as they were (of the names: what stands behind the counted ones), the place of the statement's first instruction,
-- and the line that errors go to
pub record Base : Type 0 where
  pub tables : Lent
  pub at : ℕ
  pub err : ℕ

-- the counters c and the tables t show the state g, of n names: all registers, and the statement's own instructions so far
pub record Stands (n : ℕ) (b : Base) (c : Counters) (t : Lent) (g : CodegenData) : Type 0 where
  pub err : c.err.0 ≡ b.err
  pub at : c.at ≡ b.at + length g.instrs
  pub numbers : c.numbers ≡ length g.numbers
  pub strings : c.strings ≡ length g.strings
  pub chars : c.chars ≡ length (texts g.strings)
  pub values : c.values ≡ g.values
  pub instr-words : t.instrs ≡ sets b.tables.instrs b.at (map (wordTo b.err) g.instrs)
  pub number-words : t.numbers ≡ sets b.tables.numbers 0 g.numbers
  pub string-words : t.strings ≡ sets b.tables.strings 0 (map spanWord (spans 0 g.strings))
  pub pool-words : t.pool ≡ sets b.tables.pool 0 (texts g.strings)
  pub name-words : t.names ≡ map regWord g.names ++ b.tables.names
  pub named : length g.names ≡ n
  pub below : (x v : ℕ) → get_or g.names x none ≡ some v → v < g.values

-- the answer a, the counters and the tables after a step are those of p
pub record Went (n : ℕ) (b : Base) (a : ℕ) (c : Counters) (t : Lent) (p : ℕ × CodegenData) : Type 0 where
  pub res : a ≡ p.0
  pub stands : Stands n b c t p.1

-- from c and t to c' and t' with the answer a, the code does what m does
pub record Does (n : ℕ) (m : Lower ℕ) (c : Counters) (t t' : Lent) (a : ℕ) (c' : Counters) : Type 0 where
  pub from : (b : Base) (g : CodegenData) → Stands n b c t g → Went n b a c' t' (m g)

-- ---- the same of a function that is lent some of the tables, whatever the others hold

pub record DoesNone (m : Lower ℕ) (c : Counters) (a : ℕ) (c' : Counters) : Type 0 where
  pub does : {n : ℕ} {is : List ℕ} {ns : List ℤ} {ss ps ms : List ℕ} → Does n m c (lent is ns ss ps ms) (lent is ns ss ps ms) a c'

pub record DoesCode (m : Lower ℕ) (c : Counters) (is is' : List ℕ) (a : ℕ) (c' : Counters) : Type 0 where
  pub does : {n : ℕ} {ns : List ℤ} {ss ps ms : List ℕ} → Does n m c (lent is ns ss ps ms) (lent is' ns ss ps ms) a c'

pub record DoesNums (m : Lower ℕ) (c : Counters) (ns ns' : List ℤ) (a : ℕ) (c' : Counters) : Type 0 where
  pub does : {n : ℕ} {is ss ps ms : List ℕ} → Does n m c (lent is ns ss ps ms) (lent is ns' ss ps ms) a c'

pub record DoesBoth (m : Lower ℕ) (c : Counters) (is is' : List ℕ) (ns ns' : List ℤ) (a : ℕ) (c' : Counters) : Type 0 where
  pub does : {n : ℕ} {ss ps ms : List ℕ} → Does n m c (lent is ns ss ps ms) (lent is' ns' ss ps ms) a c'

pub record DoesNames (n : ℕ) (m : Lower ℕ) (c : Counters) (ms ms' : List ℕ) (a : ℕ) (c' : Counters) : Type 0 where
  pub does : {is : List ℕ} {ns : List ℤ} {ss ps : List ℕ} → Does n m c (lent is ns ss ps ms) (lent is ns ss ps ms') a c'

pub record DoesNamed (n : ℕ) (m : Lower ℕ) (c : Counters) (is is' ms ms' : List ℕ) (a : ℕ) (c' : Counters) : Type 0 where
  pub does : {ns : List ℤ} {ss ps : List ℕ} → Does n m c (lent is ns ss ps ms) (lent is' ns ss ps ms') a c'

pub record DoesStrs (m : Lower ℕ) (c : Counters) (ss ss' ps ps' : List ℕ) (a : ℕ) (c' : Counters) : Type 0 where
  pub does : {n : ℕ} {is : List ℕ} {ns : List ℤ} {ms : List ℕ} → Does n m c (lent is ns ss ps ms) (lent is ns ss' ps' ms) a c'

pub record DoesText (m : Lower ℕ) (c : Counters) (is is' ss ss' ps ps' : List ℕ) (a : ℕ) (c' : Counters) : Type 0 where
  pub does : {n : ℕ} {ns : List ℤ} {ms : List ℕ} → Does n m c (lent is ns ss ps ms) (lent is' ns ss' ps' ms) a c'

-- ---- one step after another: `◌>>=◌` of rules, which is not shut

infixr 20 ◌▷◌
unfoldable pub ◌▷◌ : Lower ℕ → (ℕ → Lower ℕ) → Lower ℕ
◌▷◌ m k g = k (m g).0 (m g).1

-- ---- a value's content as a number, by an opcode of a value and a number: what `makeTruthy`, `numberify` and `makeNot` begin with

unfoldable pub makeNum : ℕ → ℕ → Lower ℕ
makeNum op r = do
  n ← newNum (pos 0)
  emit (ins₂ op r n)
  pure n
