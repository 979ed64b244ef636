-- The reading of a tree: its script, with duplicates replaced as lowering replaces them, is read. Nothing is taken out of a built machine:
-- the registers that replacement adds are numbered in the order of the lowered sections, which the script alone tells.
use Rattle.std.specs.Prelude.{List, [], ◌∷◌, ℕ, length}
use Rattle.rules.specs.Tree.{Tree}
use Rattle.rules.specs.Instr.{Instruction}
use Rattle.rules.specs.Annotate.{annotate}
use Rattle.rules.specs.Lowered.{spans, texts}
use Rattle.rules.specs.Replace.{Regs, rules, lookup, replaceCode}
use Rattle.rules.specs.Script.{Stmts, nil, plain, goto, ite, Script}
use Rattle.rules.specs.Walk.{Trace}
use Rattle.rules.specs.ReadScript.{readScript}

-- ---- replacement in a script; p is the pool's length

-- all statements of a list, in the order of their sections; the first one's own instructions by f
abbrev pub repBy : (Regs → List Instruction → List Instruction × Regs) → ℕ → Regs → Stmts → Stmts × Regs
repBy f p r nil = (nil, r)
repBy f p r (plain o s) =
    let x = f r o in
    let y = repBy (replaceCode p) p x.1 s in
    (plain x.0 y.0, y.1)
repBy f p r (goto o k s) =
    let x = f r o in
    let y = repBy (replaceCode p) p x.1 s in
    (goto x.0 k y.0, y.1)
repBy f p r (ite o c t e s) =
    let x = f r o in
    let a = repBy (replaceCode p) p x.1 t in
    let b = repBy (replaceCode p) p a.1 e in
    let y = repBy (replaceCode p) p b.1 s in
    (ite x.0 c a.0 b.0 y.0, y.1)

abbrev pub repAll : ℕ → Regs → Stmts → Stmts × Regs
repAll p r s = repBy (replaceCode p) p r s

-- the first statement's own instructions, which stand in the line's first section
abbrev pub repFirst : ℕ → Regs → Stmts → Stmts × Regs
repFirst p r nil = (nil, r)
repFirst p r (plain o s) = let x = replaceCode p r o in (plain x.0 s, x.1)
repFirst p r (goto o k s) = let x = replaceCode p r o in (goto x.0 k s, x.1)
repFirst p r (ite o c t f s) = let x = replaceCode p r o in (ite x.0 c t f s, x.1)

-- all the others: the first one's own stay
abbrev pub repRest : ℕ → Regs → Stmts → Stmts × Regs
repRest p r s = repBy (λ r₀ o. (o, r₀)) p r s

-- line by line
abbrev pub eachLine : (Regs → Stmts → Stmts × Regs) → Regs → Script → Script × Regs
eachLine f r [] = ([], r)
eachLine f r (s ∷ t) =
    let x = f r s in
    let y = eachLine f x.1 t in
    (x.0 ∷ y.0, y.1)

-- the lines' first statements; the others
abbrev pub firsts : ℕ → Regs → Script → Script × Regs
firsts p r t = eachLine (repFirst p) r t

abbrev pub rests : ℕ → Regs → Script → Script × Regs
rests p r t = eachLine (repRest p) r t

-- the lines' first sections come before all others
abbrev pub repScript : ℕ → Regs → Script → Script × Regs
repScript p r t = let x = firsts p r t in rests p x.1 x.0

-- ---- the tree

-- a tree's script, with the instructions that the machine has
unfoldable pub script : Tree → Script
unfolding annotate spans texts rules lookup
script t =
    let (ss, g) = annotate t in
    (repScript (length (texts g.strings)) (record { numbers = g.numbers; strings = spans 0 g.strings }) ss).0

-- a tree is read: k lines
unfoldable pub reading : Tree → List ℕ → ℕ → Trace
unfolding script
reading t os = readScript (script t) os
