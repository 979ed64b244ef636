-- The walk of a machine under a list of outcomes.
use Rattle.std.specs.Prelude.{Bool, true, false, List, [], ◌∷◌, ◌++◌, ℕ, zero, suc, ◌%◌, get_or}
use Rattle.rules.specs.Instr.{Instruction, isJump, shown}
use Rattle.rules.specs.Machine.{SectionOrLine, unfixed, section, line, SectionCode, absent, Machine}

-- ---- one walk, whatever walks: each step meets instructions, and then goes on or is over

-- the questions: at a jump, its target left aside, or at a goto by a number register
pub data Ask : Type 0 where
  atJump : Instruction → Ask
  atGoto : ℕ → Ask

-- how a walk can end: at a question for which no outcome is left, or at a section that is absent or unfixed
pub data Halt : Type 0 where
  ask : Ask → Halt
  lost : Halt

-- what follows a step: another state, or the end
pub data Step (S : Type 0) : Type 0 where
  to : S → Step S
  done : Halt → Step S

-- a step: what is met, and what follows
abbrev pub Leg : Type 0 → Type 0
Leg S = List Instruction × Step S

-- how a number of steps ends: there are more, or the walk is over
pub data End : Type 0 where
  more : End
  over : Halt → End

-- what a number of steps meets, in order, and how it ends
abbrev pub Trace : Type 0
Trace = List Instruction × End

-- l is met before
abbrev pub pre {κ} : {X : Type κ} → List Instruction → List Instruction × X → List Instruction × X
pre l t = (l ++ t.0, t.1)

-- l is met, and then what follows
abbrev pub onto : {S : Type 0} → (S → Trace) → List Instruction → Step S → Trace
onto F l (to s) = pre l (F s)
onto F l (done f) = (l, over f)

-- k steps from s
abbrev pub run : {S : Type 0} → (S → Leg S) → ℕ → S → Trace
run st zero s = ([], more)
run st (suc k) s = onto (λ s'. run st k s') (st s).0 (st s).1

-- ---- the machine's walk; a step runs one section

-- a section about to be entered (or, in a reading, a line about to be read), and the outcomes left
abbrev pub State : Type 0
State = ℕ × List ℕ

-- behind the last instruction: the successor; with kind line it asks, and enters the section numbered like line outcome modulo L
abbrev pub follow : ℕ → SectionOrLine → List ℕ → Leg State
follow L unfixed os = ([], done lost)
follow L (section t) os = ([], to (t, os))
follow L (line r) [] = ([], done (ask (atGoto r)))
follow L (line r) (o ∷ os) = ([], to (o % L, os))

-- an instruction is met, then K follows; a jump (true) uses the next outcome behind that: nonzero enters its target t
abbrev pub across : Bool → Instruction → ℕ → (List ℕ → Leg State) → List ℕ → Leg State
across false i t K os = pre (i ∷ []) (K os)
across true i t K [] = (i ∷ [], done (ask (atJump i)))
across true i t K (zero ∷ os) = pre (i ∷ []) (K os)
across true i t K (suc o ∷ os) = (i ∷ [], to (t, os))

-- a section's instructions in order, then K
abbrev pub inside : List Instruction → (List ℕ → Leg State) → List ℕ → Leg State
inside [] K os = K os
inside (i ∷ c) K os = across (isJump i) (shown i) i.fst (inside c K) os

-- who enters a section that is absent or unfixed is lost
abbrev pub through : ℕ → List Instruction → SectionOrLine → List ℕ → Leg State
through L c unfixed os = ([], done lost)
through L c (section t) os = inside c (follow L (section t)) os
through L c (line r) os = inside c (follow L (line r)) os

-- a section of a machine with L lines
abbrev pub enter : ℕ → SectionCode → List ℕ → Leg State
enter L s os = through L s.instrs s.success os

-- a step: the section of the state
abbrev pub stepSection : List SectionCode → ℕ → State → Leg State
stepSection m L s = enter L (get_or m s.0 absent) s.1

-- sections are walked from section 0
abbrev pub walkSections : List SectionCode → ℕ → List ℕ → ℕ → Trace
walkSections m L os k = run (stepSection m L) k (0, os)

-- a machine is walked: k steps
unfoldable pub walk : Machine → List ℕ → ℕ → Trace
walk m os = walkSections m.sections m.lines os

-- ---- the sections entered

-- in k steps from s
abbrev pub enters : List SectionCode → ℕ → ℕ → State → List ℕ
enters m L zero s = []
enters m L (suc k) s = s.0 ∷ elim (stepSection m L s).1 [ to z ↦ enters m L k z | done f ↦ [] ]

-- in a machine's first k steps
unfoldable pub entered : Machine → List ℕ → ℕ → List ℕ
entered m os k = enters m.sections m.lines k (0, os)
