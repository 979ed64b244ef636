-- Lowering as codegen.rs does it: sections are pushed to a table, successors set afterwards, and a line's first section swapped with its
-- placeholder. It gives what `sectionsOf` of rules gives (CodegenProof).
use Rattle.std.specs.Prelude.{Bool, true, false, cond, List, [], ◌∷◌, ◌++◌, ℕ, suc, length, get_or, set, replicate}
use Rattle.std.proofs.Math.Option.{Option, none, some}
use Rattle.rules.specs.Instr.{Instruction}
use Rattle.rules.specs.Machine.{SectionOrLine, unfixed, section, line, SectionCode, absent, isFixed}
use Rattle.rules.specs.Script.{Stmts, nil, plain, goto, ite, Script}
use Rattle.rules.specs.Assemble.{nextLine, ownCode, condJump}

-- ---- the table

abbrev pub Ends : Type 0
Ends = ℕ × Option ℕ

abbrev pub push : List SectionCode → Bool → List Instruction → SectionOrLine → List SectionCode
push m b c x = m ++ (record { lineStart = b; instrs = c; success = x } ∷ [])

abbrev pub withNext : SectionCode → SectionOrLine → SectionCode
withNext s x = record { lineStart = s.lineStart; instrs = s.instrs; success = x }

abbrev pub withIns : SectionCode → Instruction → SectionCode
withIns s i = record { lineStart = s.lineStart; instrs = s.instrs ++ (i ∷ []); success = s.success }

abbrev pub setNext : List SectionCode → ℕ → SectionOrLine → List SectionCode
setNext m n x = set m n (withNext (get_or m n absent) x)

abbrev pub addIns : List SectionCode → ℕ → Instruction → List SectionCode
addIns m n i = set m n (withIns (get_or m n absent) i)

abbrev pub setEnd : List SectionCode → Option ℕ → ℕ → List SectionCode
setEnd m none t = m
setEnd m (some n) t = setNext m n (section t)

-- ---- codegen.rs

-- `reduce` of codegen_and_link_stmts: a is the start, the option the end of what is linked so far
abbrev pub reduce : List SectionCode → ℕ → Option ℕ → List Ends → List SectionCode × Ends
reduce m a e [] = (m, (a, e))
reduce m a none (x ∷ xs) = reduce m a none xs
reduce m a (some n) (x ∷ xs) = reduce (setNext m n (section x.0)) a x.1 xs

abbrev pub linkUp : List SectionCode → List Ends → List SectionCode × Option Ends
linkUp m [] = (m, none)
linkUp m (x ∷ xs) = let r = reduce m x.0 x.1 xs in (r.0, some r.1)

abbrev pub thenDone : ℕ → ℕ → List SectionCode → Option Ends → List SectionCode × Option ℕ
thenDone n c m none = (push m false [] unfixed, some (length m))
thenDone n c m (some x) = (addIns m n (condJump x.0 c), x.1)

abbrev pub elseDone : ℕ → List SectionCode → Option Ends → List SectionCode × Option ℕ
elseDone n m none = (setNext (push m false [] unfixed) n (section (length m)), some (length m))
elseDone n m (some x) = (setNext m n (section x.0), x.1)

abbrev pub thenPart : ℕ → ℕ → List SectionCode × List Ends → List SectionCode × Option ℕ
thenPart n c g = let l = linkUp g.0 g.1 in thenDone n c l.0 l.1

abbrev pub elsePart : ℕ → List SectionCode × List Ends → List SectionCode × Option ℕ
elsePart n g = let l = linkUp g.0 g.1 in elseDone n l.0 l.1

-- the section behind an ite, to which both ends are linked
abbrev pub join : List SectionCode → Option ℕ → Option ℕ → List SectionCode
join m t f = setEnd (setEnd (push m false [] unfixed) t (length m)) f (length m)

-- the statements of a list one after the other, not linked: the table, and each one's start and end; b: the first is a line's first
abbrev pub gen : Bool → ℕ → List SectionCode → Stmts → List SectionCode × List Ends
gen b e m nil = (m, [])
gen b e m (plain o s) =
    let r = gen false e (push m b (ownCode e o) unfixed) s in
    (r.0, (length m, some (length m)) ∷ r.1)
gen b e m (goto o k s) =
    let r = gen false e (push m b (ownCode e o) (line k)) s in
    (r.0, (length m, none) ∷ r.1)
gen b e m (ite o c t f s) =
    let dt = thenPart (length m) c (gen false e (push m b (ownCode e o) unfixed) t) in
    let df = elsePart (length m) (gen false e dt.0 f) in
    let r = gen false e (join df.0 dt.1 df.1) s in
    (r.0, (length m, some (length df.0)) ∷ r.1)

abbrev pub swap : List SectionCode → ℕ → ℕ → List SectionCode
swap m i j = set (set m i (get_or m j absent)) j (get_or m i absent)

abbrev pub lineDone : ℕ → ℕ → List SectionCode → Option Ends → List SectionCode
lineDone i e m none = m
lineDone i e m (some x) = swap (setEnd m x.1 e) i x.0

-- the placeholder of an empty line is linked to the next line
abbrev pub fixLine : List SectionCode → ℕ → ℕ → List SectionCode
fixLine m i e = cond (isFixed (get_or m i absent).success) m (setNext m i (section e))

abbrev pub genLines : ℕ → ℕ → List SectionCode → Script → List SectionCode
genLines L i m [] = m
genLines L i m (s ∷ ss) =
    let e = nextLine L i in
    let g = gen true e m s in
    let l = linkUp g.0 g.1 in
    genLines L (suc i) (fixLine (lineDone i e l.0 l.1) i e) ss

unfoldable pub codegen : Script → List SectionCode
codegen t = genLines (length t) 0 (replicate (length t) absent) t
