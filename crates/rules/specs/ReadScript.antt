-- The reading of a script in order under a list of outcomes.
use Rattle.std.specs.Prelude.{Bool, true, false, List, [], ◌∷◌, ℕ, zero, suc, ◌%◌, length, get_or}
use Rattle.rules.specs.Instr.{Instruction, isJump, shown}
use Rattle.rules.specs.Script.{Stmts, nil, plain, goto, ite, Script, isNil}
use Rattle.rules.specs.Assemble.{nextLine, condJump}
use Rattle.rules.specs.Walk.{Ask, atJump, atGoto, ask, Step, to, done, Leg, pre, State, Trace, run}

-- how the reading of a list ends: behind its last statement, by an error, by a goto, or at a question without an outcome
pub data Out : Type 0 where
  behind : List ℕ → Out
  erred : List ℕ → Out
  gone : ℕ → List ℕ → Out
  stop : Ask → Out

-- l is read, and what follows only if its end was reached
abbrev pub thenOn : List Instruction → Out → (List ℕ → List Instruction × Out) → List Instruction × Out
thenOn l (behind os) f = pre l (f os)
thenOn l (erred os) f = (l, erred os)
thenOn l (gone n os) f = (l, gone n os)
thenOn l (stop q) f = (l, stop q)

abbrev pub andThen : List Instruction × Out → (List ℕ → List Instruction × Out) → List Instruction × Out
andThen x f = thenOn x.0 x.1 f

-- ---- a statement's own instructions

-- one of them, then K; a jump (true) is an error jump, and a taken error leaves the line
abbrev pub readIns : Bool → Instruction → (List ℕ → List Instruction × Out) → List ℕ → List Instruction × Out
readIns false i K os = pre (i ∷ []) (K os)
readIns true i K [] = (i ∷ [], stop (atJump i))
readIns true i K (zero ∷ os) = pre (i ∷ []) (K os)
readIns true i K (suc a ∷ os) = (i ∷ [], erred os)

abbrev pub readOwn : List Instruction → List ℕ → List Instruction × Out
readOwn [] os = ([], behind os)
readOwn (i ∷ o) os = readIns (isJump i) (shown i) (readOwn o) os

-- ---- statements

-- a goto asks by its number register
abbrev pub readGoto : ℕ → List ℕ → List Instruction × Out
readGoto r [] = ([], stop (atGoto r))
readGoto r (o ∷ os) = ([], gone o os)

-- an ite's jump by register c leads to the then-list if taken and to the else-list if not
abbrev pub readIf : ℕ → (List ℕ → List Instruction × Out) → (List ℕ → List Instruction × Out) → List ℕ → List Instruction × Out
readIf c t f [] = (condJump 0 c ∷ [], stop (atJump (condJump 0 c)))
readIf c t f (zero ∷ os) = pre (condJump 0 c ∷ []) (f os)
readIf c t f (suc a ∷ os) = pre (condJump 0 c ∷ []) (t os)

-- where the then-list is empty there is no jump, nothing is asked, and the else-list is always read
abbrev pub readCond : Stmts → ℕ → (List ℕ → List Instruction × Out) → (List ℕ → List Instruction × Out) → List ℕ → List Instruction × Out
readCond t c rt rf os = elim (isNil t) [ true ↦ rf os | false ↦ readIf c rt rf os ]

-- a list of statements; what stands behind a goto is not read, behind either list of an ite comes what follows it
abbrev pub read : Stmts → List ℕ → List Instruction × Out
read nil os = ([], behind os)
read (plain o s) os = andThen (readOwn o os) (read s)
read (goto o r s) os = andThen (readOwn o os) (readGoto r)
read (ite o c t f s) os = andThen (andThen (readOwn o os) (readCond t c (read t) (read f))) (read s)

-- ---- lines; a step reads one line

-- a line's end and a taken error lead to the next line, a goto to line outcome modulo L
abbrev pub onward : ℕ → ℕ → Out → Step State
onward L i (behind os) = to (nextLine L i, os)
onward L i (erred os) = to (nextLine L i, os)
onward L i (gone n os) = to (n % L, os)
onward L i (stop q) = done (ask q)

abbrev pub stepLine : Script → State → Leg State
stepLine t s = let x = read (get_or t s.0 nil) s.1 in (x.0, onward (length t) s.0 x.1)

-- a script is read from line 0: k lines
abbrev pub readScript : Script → List ℕ → ℕ → Trace
readScript t os k = run (stepLine t) k (0, os)
