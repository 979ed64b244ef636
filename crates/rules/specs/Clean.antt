-- Cleaning, `remove_unfixed_sections`: unfixed sections are removed, and targets follow.
use Rattle.std.specs.Prelude.{cond, List, [], ◌∷◌, map, ℕ, suc, pred, length, take}
use Rattle.rules.specs.Instr.{Instruction, aimed}
use Rattle.rules.specs.Machine.{SectionOrLine, unfixed, section, line, isFixed, SectionCode, Machine, withSections}

-- ---- renumbering: every target t becomes f t

-- of a jump
abbrev pub renIns : (ℕ → ℕ) → Instruction → Instruction
renIns f i = aimed (f i.fst) i

-- of a successor
abbrev pub renNext : (ℕ → ℕ) → SectionOrLine → SectionOrLine
renNext f unfixed = unfixed
renNext f (section t) = section (f t)
renNext f (line r) = line r

-- of a section
abbrev pub ren : (ℕ → ℕ) → SectionCode → SectionCode
ren f s = record { lineStart = s.lineStart; instrs = map (renIns f) s.instrs; success = renNext f s.success }

-- ---- cleaning

-- the sections that stay
abbrev pub keep : List SectionCode → List SectionCode
keep [] = []
keep (s ∷ ss) = cond (isFixed s.success) (s ∷ keep ss) (keep ss)

-- t's new number: the kept sections up to and including t, minus 1, also where t itself is removed
abbrev pub rank : List SectionCode → ℕ → ℕ
rank m t = pred (length (keep (take (suc t) m)))

-- sections cleaned
unfoldable pub cleanSections : List SectionCode → List SectionCode
cleanSections m = map (ren (rank m)) (keep m)

-- a machine cleaned
unfoldable pub cleaned : Machine → Machine
unfolding cleanSections
cleaned m = withSections m (cleanSections m.sections)
