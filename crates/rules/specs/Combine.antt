-- Combining, `CombineSections`: the lowest S1 whose successor S2 may be joined to it takes S2 in, and so on until there is none.
use Rattle.std.specs.Prelude.{Bool, cond, not, ◌&&◌, List, [], ◌∷◌, ◌++◌, map, ℕ, zero, suc, ◌+◌, length, get_or, set, eqb}
use Rattle.std.proofs.Math.Option.{Option, none, some}
use Rattle.rules.specs.Instr.{Instruction, isJump, fall}
use Rattle.rules.specs.Machine.{SectionOrLine, unfixed, section, line, SectionCode, absent, Machine, withSections}
use Rattle.rules.specs.Clean.{ren}

-- ---- references

-- one where they are the same
abbrev pub hit : ℕ → ℕ → ℕ
hit u t = cond (eqb u t) 1 0

-- the references to t of a successor
abbrev pub refsNext : ℕ → SectionOrLine → ℕ
refsNext t unfixed = 0
refsNext t (section u) = hit u t
refsNext t (line r) = 0

-- of an instruction
abbrev pub refsIns : ℕ → Instruction → ℕ
refsIns t i = cond (isJump i) (hit i.fst t) 0

-- of instructions
abbrev pub refsCode : ℕ → List Instruction → ℕ
refsCode t [] = 0
refsCode t (i ∷ c) = refsIns t i + refsCode t c

-- in all: successors and jumps
abbrev pub refs : ℕ → List SectionCode → ℕ
refs t [] = 0
refs t (s ∷ ss) = (refsNext t s.success + refsCode t s.instrs) + refs t ss

-- ---- the pair

-- may section i take its successor j in? j differs from it, is no line start and has one reference in all
abbrev pub mayTake : List SectionCode → ℕ → ℕ → Bool
mayTake m i j = not (eqb i j) && (not (get_or m j absent).lineStart && eqb (refs j m) 1)

-- what section i may take in where its successor is this: the successor, if any
abbrev pub mate : List SectionCode → ℕ → SectionOrLine → Option ℕ
mate m i unfixed = none
mate m i (section j) = cond (mayTake m i j) (some j) none
mate m i (line r) = none

-- the section that section i may take in
abbrev pub next : List SectionCode → ℕ → Option ℕ
next m i = mate m i (get_or m i absent).success

-- the lowest pair whose first is one of the k sections from number i on
abbrev pub pairFrom : List SectionCode → ℕ → ℕ → Option (ℕ × ℕ)
pairFrom m i zero = none
pairFrom m i (suc k) = elim (next m i) [ none ↦ pairFrom m (suc i) k | some j ↦ some (i, j) ]

-- the lowest pair S1, S2
abbrev pub pair : List SectionCode → Option (ℕ × ℕ)
pair m = pairFrom m 0 (length m)

-- ---- joining

-- a list without what stands at n
abbrev pub without : {A : Type 0} → List A → ℕ → List A
without [] n = []
without (x ∷ xs) zero = xs
without (x ∷ xs) (suc n) = x ∷ without xs n

-- S2's instructions behind S1's, and S2's successor
abbrev pub joined : SectionCode → SectionCode → SectionCode
joined a b = record { lineStart = a.lineStart; instrs = a.instrs ++ b.instrs; success = b.success }

-- j joined behind i and removed; every target above j falls by one
unfoldable pub combineAt : List SectionCode → ℕ → ℕ → List SectionCode
combineAt m i j = map (ren (fall j)) (without (set m i (joined (get_or m i absent) (get_or m j absent))) j)

-- at most k times
abbrev pub combineFuel : ℕ → List SectionCode → List SectionCode
combineFuel zero m = m
combineFuel (suc k) m = elim (pair m) [ none ↦ m | some p ↦ combineFuel k (combineAt m p.0 p.1) ]

-- until no pair is left: each time one section goes, so `length m` times are enough
unfoldable pub combineSections : List SectionCode → List SectionCode
unfolding combineAt
combineSections m = combineFuel (length m) m

-- a machine combined
unfoldable pub combined : Machine → Machine
unfolding combineSections
combined m = withSections m (combineSections m.sections)
