-- A statement's own section: its instructions at the cursor, and its word in the table of sections.
use Rattle.std.specs.Prelude.{◌≡◌, Bool, true, false, cond, List, [], ◌∷◌, ◌++◌, map, ℕ, ◌+◌, ◌<◌, length, get_or, set}
use Rattle.std.proofs.Math.Option.{none, some}
use Rattle.std.proofs.lemmas.List.Edits.{sets}
use Rattle.rules.specs.Word.{insWord, spanWord, runWord}
use Rattle.rules.specs.Instr.{Instruction}
use Rattle.rules.specs.Machine.{SectionOrLine, SectionCode}
use Rattle.rules.specs.Tables.{sectionRun}
use Rattle.rules.specs.Assemble.{ownCode, condJump}
use Rattle.rules.specs.CodegenData.{CodegenData, Lower, scoped}
use Rattle.rules.specs.Lowered.{spans, texts}
use Rattle.codegen.specs.declared.state.Counters.{Counters}
use Rattle.codegen.specs.Does.{Lent, regWord}

-- the registers of the state g, of n names, in the counters c and the tables t, which were b; errors go to line e
pub record Regs (n e : ℕ) (b : Lent) (c : Counters) (t : Lent) (g : CodegenData) : Type 0 where
  pub err : c.err.0 ≡ e
  pub numbers : c.numbers ≡ length g.numbers
  pub strings : c.strings ≡ length g.strings
  pub chars : c.chars ≡ length (texts g.strings)
  pub values : c.values ≡ g.values
  pub number-words : t.numbers ≡ sets b.numbers 0 g.numbers
  pub string-words : t.strings ≡ sets b.strings 0 (map spanWord (spans 0 g.strings))
  pub pool-words : t.pool ≡ sets b.pool 0 (texts g.strings)
  pub name-words : t.names ≡ map regWord g.names ++ b.names
  pub named : length g.names ≡ n
  pub below : (x v : ℕ) → get_or g.names x none ≡ some v → v < g.values

-- a section that is made of own instructions and a register: with start flag l, the instructions d of the register behind, and its successor
abbrev pub made : Bool → (ℕ → List Instruction) → (ℕ → SectionOrLine) → ℕ → List Instruction × ℕ → SectionCode
made l d f e p = record { lineStart = l; instrs = ownCode e p.0 ++ d p.1; success = f p.1 }

-- no instructions behind
abbrev pub nothing : ℕ → List Instruction
nothing r = []

-- the section s stands in the tables: its instructions from the cursor on, its word at a slot
pub record Stored (s : SectionCode) (slot at at' : ℕ) (is is' se se' : List ℕ) : Type 0 where
  pub code : is' ≡ sets is at (map insWord s.instrs)
  pub ends : at' ≡ at + length s.instrs
  pub word : se' ≡ set se slot (runWord (sectionRun s at))

-- what m emits became a section
pub record Became (n e : ℕ) (l : Bool) (d : ℕ → List Instruction) (f : ℕ → SectionOrLine) (slot : ℕ) (b : Lent) (c : Counters) (t t' : Lent) (se se' : List ℕ) (c' : Counters) (p : (List Instruction × ℕ) × CodegenData) : Type 0 where
  pub regs : Regs n e b c' t' p.1
  pub stored : Stored (made l d f e p.0) slot c.at c'.at t.instrs t'.instrs se se'

pub record Makes (n : ℕ) (m : Lower ℕ) (l : Bool) (d : ℕ → List Instruction) (f : ℕ → SectionOrLine) (slot : ℕ) (c : Counters) (t t' : Lent) (se se' : List ℕ) (c' : Counters) : Type 0 where
  pub from : (e : ℕ) (b : Lent) (g : CodegenData) → Regs n e b c t g → Became n e l d f slot b c t t' se se' c' (scoped m g)

-- an Ite's jump by register r to section n, unless its then-list is empty
abbrev pub jump : Bool → ℕ → ℕ → List Instruction
jump b n r = cond b [] (condJump n r ∷ [])

-- the counters with another cursor
abbrev pub placed : Counters → ℕ → Counters
placed c k = record { at = k; numbers = c.numbers; strings = c.strings; chars = c.chars; values = c.values; err = c.err }

-- what it costs
unfoldable pub jumpCost : Bool → ℕ
jumpCost true = 0
jumpCost false = 1
