-- A statement in two parts: its own section, and the lists that it holds. A line has the two apart in the tables, a list one behind the other.
use Rattle.std.specs.Prelude.{◌≡◌, Bool, true, List, [], ◌∷◌, ◌++◌, ℕ, suc, ◌+◌, ◌<◌}
use Rattle.rules.specs.Instr.{Instruction}
use Rattle.rules.specs.Tree.{Block, end, ite, assign, Tally, ofBlock, both, emptyTally}
use Rattle.rules.specs.Machine.{SectionCode, section, line}
use Rattle.rules.specs.Script.{Stmts, nil}
use Rattle.rules.specs.Assemble.{orEmpty, stmtSections, inner, link}
use Rattle.rules.specs.CodegenData.{CodegenData, Lower, pure, scoped}
use Rattle.rules.specs.Operators.{codegenIncdec}
use Rattle.rules.specs.Annotate.{lineNumber, condition, codegenFromAssign, annotateStmts}
use Rattle.nodes.specs.Width.{width, orOne}
use Rattle.codegen.specs.declared.state.Counters.{Counters}
use Rattle.codegen.specs.Does.{Lent}
use Rattle.exprs.specs.Exprs.{exprCost}
use Rattle.stmts.specs.Told.{assignCost}
use Rattle.stmts.specs.Makes.{Regs, Stored, made, nothing, jump, jumpCost}
use Rattle.stmts.specs.Lists.{Wrote, isEnd, Ample, Held, ListReady, GrewAll}

-- ---- the own section

-- what a list's first statement emits itself
unfoldable pub own : Block → Lower (List Instruction × ℕ)
own end = pure ([], 0)
own (Block.goto e xs) = scoped (lineNumber e)
own (ite c t f xs) = scoped (condition c)
own (Block.incdec i x xs) = scoped (codegenIncdec i x)
own (assign x o e xs) = scoped (codegenFromAssign x o e)

-- its own section; s: is it a line start?
unfoldable pub ownSection : Bool → Bool → ℕ → ℕ → ℕ → Block → List Instruction × ℕ → SectionCode
ownSection s l e n k end p = made s nothing (λ _. link l k) e p
ownSection s l e n k (Block.goto v xs) p = made s nothing line e p
ownSection s l e n k (ite c t f xs) p = made s (jump (isEnd t) (suc n)) (λ _. section (suc n + orOne (width t))) e p
ownSection s l e n k (Block.incdec i x xs) p = made s nothing (λ _. link l k) e p
ownSection s l e n k (assign x o v xs) p = made s nothing (λ _. link l k) e p

-- the statement without the lists that it holds
unfoldable pub bare : Block → Block
bare end = end
bare (Block.goto e xs) = Block.goto e end
bare (ite c t f xs) = ite c end end end
bare (Block.incdec i x xs) = Block.incdec i x end
bare (assign x o e xs) = assign x o e end

-- how many instructions it emits itself
unfoldable pub ownCost : Block → ℕ
ownCost end = 0
ownCost (Block.goto e xs) = exprCost e + 2
ownCost (ite e x y xs) = exprCost e + 1 + jumpCost (isEnd x)
ownCost (Block.incdec i x xs) = 2
ownCost (assign x o e xs) = exprCost e + assignCost o

-- ---- the lists that it holds

unfoldable pub inside : Block → Lower (Stmts × Stmts)
inside end g = ((nil, nil), g)
inside (Block.goto e xs) g = ((nil, nil), g)
inside (ite c t f xs) g =
    let (t₁, g₁) = annotateStmts t g in
    let (f₁, g₂) = annotateStmts f g₁ in
    ((t₁, f₁), g₂)
inside (Block.incdec i x xs) g = ((nil, nil), g)
inside (assign x o e xs) g = ((nil, nil), g)

-- their sections and the join
unfoldable pub insideSections : Bool → ℕ → ℕ → ℕ → Block → Stmts × Stmts → List SectionCode
insideSections l e n k end p = []
insideSections l e n k (Block.goto v xs) p = []
insideSections l e n k (ite c t f xs) p =
    let nf = suc n + orOne (width t) in
    let nj = nf + orOne (width f) in
    orEmpty p.0 nj (stmtSections true e (suc n) nj p.0) ++ (orEmpty p.1 nj (stmtSections true e nf nj p.1) ++ (inner [] (link l k) ∷ []))
insideSections l e n k (Block.incdec i x xs) p = []
insideSections l e n k (assign x o v xs) p = []

-- what they count
unfoldable pub insideTally : Block → Tally
insideTally end = emptyTally
insideTally (Block.goto e xs) = emptyTally
insideTally (ite c t f xs) = both (ofBlock t) (ofBlock f)
insideTally (Block.incdec i x xs) = emptyTally
insideTally (assign x o e xs) = emptyTally

-- ---- what the functions ask and give

-- a statement is held at node i, and there is room for it; j is its own section's number, whose word goes to a slot
pub record OwnReady (s t : List ℕ) (i j slot : ℕ) (c : Counters) (il nl sl pl ml zl : ℕ) : Type 0 where
  pub depth : ℕ
  pub ready : ListReady s t i 1 depth j c il nl sl pl ml zl
  pub placed : slot < zl

-- its own section is made, with its word at the slot; s: is it a line start?
pub record OwnWent (m e : ℕ) (x : Block) (s l : Bool) (n k slot : ℕ) (b : Lent) (c : Counters) (t t' : Lent) (se se' : List ℕ) (c' : Counters) (p : (List Instruction × ℕ) × CodegenData) : Type 0 where
  pub regs : Regs m e b c' t' p.1
  pub stored : Stored (ownSection s l e n k x p.0) slot c.at c'.at t.instrs t'.instrs se se'

pub record Owns (m : ℕ) (x : Block) (s l : Bool) (n k slot : ℕ) (c : Counters) (t t' : Lent) (se se' : List ℕ) (c' : Counters) : Type 0 where
  pub from : (e : ℕ) (b : Lent) (g : CodegenData) → Regs m e b c t g → OwnWent m e x s l n k slot b c t t' se se' c' (own x g)

pub record OwnDone (m : ℕ) (x : Block) (s l : Bool) (n k slot : ℕ) (c : Counters) (t t' : Lent) (se se' : List ℕ) (c' : Counters) : Type 0 where
  pub does : Owns m x s l n k slot c t t' se se' c'
  pub cost : c'.at ≡ c.at + ownCost x
  pub spent : GrewAll (ofBlock (bare x)) c c'

-- a statement is held at node i, and there is room for the lists that it holds; j is its own section's number
pub record InsideReady (s t : List ℕ) (i depth j : ℕ) (c : Counters) (il nl sl pl ml zl : ℕ) : Type 0 where
  pub list : Held s t i 1 depth
  pub ample : Ample (insideTally list.block) (width list.block) list.known j c il nl sl pl ml zl

-- its lists are lowered, their sections behind number n
pub record InsideWent (m e : ℕ) (x : Block) (l : Bool) (n k : ℕ) (b : Lent) (c : Counters) (t t' : Lent) (se se' : List ℕ) (c' : Counters) (p : (Stmts × Stmts) × CodegenData) : Type 0 where
  pub regs : Regs m e b c' t' p.1
  pub wrote : Wrote (insideSections l e n k x p.0) (suc n) c.at c'.at t.instrs t'.instrs se se'

pub record Insides (m : ℕ) (x : Block) (l : Bool) (n k : ℕ) (c : Counters) (t t' : Lent) (se se' : List ℕ) (c' : Counters) : Type 0 where
  pub from : (e : ℕ) (b : Lent) (g : CodegenData) → Regs m e b c t g → InsideWent m e x l n k b c t t' se se' c' (inside x g)

pub record InsideDone (m : ℕ) (x : Block) (l : Bool) (n k : ℕ) (c : Counters) (t t' : Lent) (se se' : List ℕ) (c' : Counters) : Type 0 where
  pub does : Insides m x l n k c t t' se se' c'
  pub spent : GrewAll (insideTally x) c c'
