-- Semantic preservation, as a statement: walking the finished machine and reading the tree, under one list of outcomes.
use Rattle.std.specs.Prelude.{◌≡◌, ◌↔◌, ◌⊎◌, List, [], ◌∷◌, map, ℕ, ◌<◌, length, take, get_or}
use Rattle.std.proofs.Math.Option.{Option, none, some}
use Rattle.rules.specs.Tree.{Tree}
use Rattle.rules.specs.Instr.{Instruction, Kind, unused, num, str, val, place, kinds}
use Rattle.rules.specs.Machine.{SectionOrLine, unfixed, section, line, absent}
use Rattle.rules.specs.Tables.{Counts, countsOf}
use Rattle.rules.specs.Script.{Stmts, nil, plain, goto, ite}
use Rattle.rules.specs.Combine.{pair}
use Rattle.rules.specs.Lowered.{Options, finished}
use Rattle.rules.specs.Walk.{Ask, ask, lost, over, Trace, walk, entered}
use Rattle.rules.specs.ReadScript.{readScript}
use Rattle.rules.specs.Reading.{script, reading}

-- ---- walks

-- a walk by its fuel: what it meets in k steps, and how it ended; one that never ends, or never meets anything, is a walk too
abbrev pub Walk : Type 0
Walk = ℕ → Trace

-- the first n instructions that w meets are l
abbrev pub Meets : Walk → ℕ → List Instruction → Type 0
Meets w n l = (k : ℕ) × (length l ≡ n) × (take n (w k).0 ≡ l)

-- w meets fewer than n
abbrev pub Fewer : Walk → ℕ → Type 0
Fewer w n = (k : ℕ) → length (w k).0 < n

-- both meet the same first n, or both meet fewer
abbrev pub SameFirst : Walk → Walk → ℕ → Type 0
SameFirst v w n = ((l : List Instruction) × Meets v n l × Meets w n l) ⊎ (Fewer v n × Fewer w n)

-- the outcomes run out: w meets l, no more, and stops at the question q
abbrev pub Stops : Walk → List Instruction → Ask → Type 0
Stops w l q = (k : ℕ) × (w k ≡ (l, over (ask q)))

pub record SameWalk (v w : Walk) : Type 0 where
  -- for every n, both meet the same first n instructions, or both meet fewer
  pub firsts : (n : ℕ) → SameFirst v w n
  -- outcomes that run out stop both at the same question: after as many instructions, at the same jump or at a goto by the same register
  pub stops : (l : List Instruction) (q : Ask) → Stops v l q ↔ Stops w l q

-- ---- tables

-- everything in a list is P
abbrev pub All {κ} : {A : Type 0} → (A → Type κ) → List A → Type κ
All P [] = Unit {_}
All P (x ∷ l) = P x × All P l

-- a field's register lies below its table's count; a jump's target is left aside
abbrev pub FieldBelow : Counts → Kind → ℕ → Type 0
FieldBelow u unused n = n ≡ 0
FieldBelow u num n = n < u.numbers
FieldBelow u str n = n < u.strings
FieldBelow u val n = n < u.values
FieldBelow u place n = Unit {0}

-- the three fields of an opcode; there is one
abbrev pub FieldsBelow : Counts → Option (Kind × Kind × Kind) → Instruction → Type 0
FieldsBelow u none i = ⊥
FieldsBelow u (some k) i = FieldBelow u k.0 i.fst × FieldBelow u k.1 i.snd × FieldBelow u k.2 i.thd

-- every register of an instruction
abbrev pub RegistersBelow : Counts → Instruction → Type 0
RegistersBelow u i = FieldsBelow u (kinds i.op) i

-- the register of a goto
abbrev pub GotoBelow : Counts → SectionOrLine → Type 0
GotoBelow u unfixed = Unit {0}
GotoBelow u (section t) = Unit {0}
GotoBelow u (line r) = r < u.numbers

-- ---- gotos

-- a list without what stands behind a goto
abbrev pub prune : Stmts → Stmts
prune nil = nil
prune (plain o s) = plain o (prune s)
prune (goto o r s) = goto o r nil
prune (ite o c t e s) = ite o c (prune t) (prune e) (prune s)

-- ---- the claim

-- of a tree, the options that it is finished by, and a list of outcomes
pub record Preserves (o : Options) (t : Tree) (os : List ℕ) : Type 0 where
  -- for every n, both meet the same first n instructions or both meet fewer; where the list runs out, both stop at the same question
  pub same : SameWalk (walk (finished o t) os) (reading t os)
  -- the machine comes to no section that is absent or unfixed,
  pub found : (k : ℕ) → (walk (finished o t) os k).1 ≡ over lost → ⊥
  -- and every section that it enters lies below the section count
  pub sections : (k : ℕ) → All (λ n. n < (countsOf (finished o t)).sections) (entered (finished o t) os k)
  -- every register of an instruction met lies below its table's count,
  pub registers : (k : ℕ) → All (RegistersBelow (countsOf (finished o t))) (walk (finished o t) os k).0
  -- and so does the register of every goto in the sections entered, so of every goto asked
  pub gotos : (k : ℕ) → All (λ n. GotoBelow (countsOf (finished o t)) (get_or (finished o t).sections n absent).success) (entered (finished o t) os k)
  -- what stands behind a goto in its list is never met: the walk is the same as that of the script without it
  pub behindGoto : SameWalk (walk (finished o t) os) (readScript (map prune (script t)) os)
  -- the machine is combined until no pair is left
  pub noPair : pair (finished o t).sections ≡ none
