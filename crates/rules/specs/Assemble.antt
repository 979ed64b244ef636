-- Lowering, second factor: a script becomes sections. Since a list's count of sections is known beforehand, each section is made with its final
-- number and successor, and nothing is set later. The crate walks has codegen.rs's way, which sets and swaps
-- (Codegen), and that both make the same.
use Rattle.std.specs.Prelude.{Bool, true, false, cond, List, [], ◌∷◌, ◌++◌, map, ℕ, suc, ◌+◌, length, eqb}
use Rattle.rules.specs.Opcode as Op
use Rattle.rules.specs.Instr.{Instruction, ins₂, aimed}
use Rattle.rules.specs.Machine.{SectionOrLine, unfixed, section, line, SectionCode, absent}
use Rattle.rules.specs.Script.{Stmts, nil, plain, goto, ite, Script, isNil}

-- the line that follows line i of L: line 0 follows the last
abbrev pub nextLine : ℕ → ℕ → ℕ
nextLine L i = cond (eqb (suc i) L) 0 (suc i)

-- ---- how many sections a list makes

-- in an ite an empty list makes one all the same
abbrev pub orOne : Stmts → ℕ → ℕ
orOne s n = cond (isNil s) 1 n

-- one a statement, and of an ite its lists' and the one behind it
abbrev pub sectionsMade : Stmts → ℕ
sectionsMade nil = 0
sectionsMade (plain o s) = suc (sectionsMade s)
sectionsMade (goto o r s) = suc (sectionsMade s)
sectionsMade (ite o c t e s) = suc (orOne t (sectionsMade t) + (orOne e (sectionsMade e) + suc (sectionsMade s)))

-- ---- a list's sections

-- own instructions, whose error jumps go to line e
abbrev pub ownCode : ℕ → List Instruction → List Instruction
ownCode e o = map (aimed e) o

-- where a list whose sections start at n and that is left to k is entered
abbrev pub entry : Stmts → ℕ → ℕ → ℕ
entry s n k = cond (isNil s) k n

-- the successor of the last section of a linked (true) or an unlinked (false) statement
abbrev pub link : Bool → ℕ → SectionOrLine
link true t = section t
link false t = unfixed

-- an ite's jump by register c to its then-list at n
abbrev pub condJump : ℕ → ℕ → Instruction
condJump n c = ins₂ Op.JumpSectionIf n c

-- an empty then-list gives no conditional jump
abbrev pub condCode : Stmts → ℕ → ℕ → List Instruction
condCode t c n = cond (isNil t) [] (condJump n c ∷ [])

-- a section that is no line start
abbrev pub inner : List Instruction → SectionOrLine → SectionCode
inner c x = record { lineStart = false; instrs = c; success = x }

-- an empty list of an ite still makes a section
abbrev pub orEmpty : Stmts → ℕ → List SectionCode → List SectionCode
orEmpty s k l = cond (isNil s) (inner [] (section k) ∷ []) l

-- the sections of a list in the order of their making, the first with number n; e is the line that errors go to, k the section that follows
-- the list. b: the list is linked; behind a goto it is not, not even its statements to each other
abbrev pub stmtSections : Bool → ℕ → ℕ → ℕ → Stmts → List SectionCode
stmtSections b e n k nil = []
stmtSections b e n k (plain o s) = inner (ownCode e o) (link b (entry s (suc n) k)) ∷ stmtSections b e (suc n) k s
stmtSections b e n k (goto o r s) = inner (ownCode e o) (line r) ∷ stmtSections false e (suc n) k s
stmtSections b e n k (ite o c t f s) =
    let nf = suc n + orOne t (sectionsMade t) in
    let nj = nf + orOne f (sectionsMade f) in
    inner (ownCode e o ++ condCode t c (suc n)) (section nf)
    ∷ (orEmpty t nj (stmtSections true e (suc n) nj t)
    ++ (orEmpty f nj (stmtSections true e nf nj f) ++ (inner [] (link b (entry s (suc nj) k)) ∷ stmtSections b e (suc nj) k s)))

-- ---- lines

-- a line's first section is a line start
abbrev pub asStart : SectionCode → SectionCode
asStart s = record { lineStart = true; instrs = s.instrs; success = s.success }

-- a line's section that stands at the line's number: its first, which traded places; of an empty line the placeholder, linked
abbrev pub headOf : ℕ → List SectionCode → SectionCode
headOf e [] = record { lineStart = true; instrs = []; success = section e }
headOf e (s ∷ ss) = asStart s

-- a line's other sections: the placeholder, where the first was made, and the rest
abbrev pub tailOf : List SectionCode → List SectionCode
tailOf [] = []
tailOf (s ∷ ss) = absent ∷ ss

-- the sections of line i of L; the first has the number n
abbrev pub lineSections : ℕ → ℕ → ℕ → Stmts → List SectionCode
lineSections L i n s = stmtSections true (nextLine L i) n (nextLine L i) s

-- what stands at the lines' numbers
abbrev pub heads : ℕ → ℕ → ℕ → Script → List SectionCode
heads L i n [] = []
heads L i n (s ∷ ss) = headOf (nextLine L i) (lineSections L i n s) ∷ heads L (suc i) (n + sectionsMade s) ss

-- what stands behind
abbrev pub tails : ℕ → ℕ → ℕ → Script → List SectionCode
tails L i n [] = []
tails L i n (s ∷ ss) = tailOf (lineSections L i n s) ++ tails L (suc i) (n + sectionsMade s) ss

-- a script's sections
unfoldable pub sectionsOf : Script → List SectionCode
sectionsOf t = heads (length t) 0 (length t) t ++ tails (length t) 0 (length t) t
