-- What lowering a list of statements gives: its sections in the tables, one behind the other.
use Rattle.std.specs.Prelude.{◌≡◌, Bool, true, false, cond, eqb, List, [], map, ℕ, suc, ◌+◌, ◌-◌, ◌*◌, ◌^◌, ◌≤◌, ◌<◌, max, length}
use Rattle.std.proofs.lemmas.List.Edits.{sets}
use Rattle.rules.specs.Constants.{mostBytes, nameBits, instrsANode, numbersANode, mostCount}
use Rattle.rules.specs.Word.{insWord}
use Rattle.rules.specs.Tree.{Block, end, ite, assign, Tally, ofBlock, both}
use Rattle.rules.specs.Machine.{SectionCode}
use Rattle.rules.specs.Tables.{runWords, allCode}
use Rattle.rules.specs.Script.{Stmts, nil, plain}
use Rattle.rules.specs.Assemble.{stmtSections, orEmpty, inner, link}
use Rattle.rules.specs.CodegenData.{CodegenData}
use Rattle.rules.specs.Annotate.{annotateStmts}
use Rattle.nodes.specs.Words.{iteKind, gotoKind, elseWidth, kindIn, widthIn}
use Rattle.nodes.specs.Width.{width, orOne}
use Rattle.nodes.specs.Holds.{HoldsB}
use Rattle.codegen.specs.declared.state.Counters.{Counters}
use Rattle.codegen.specs.Does.{Lent}
use Rattle.codegen.specs.Costs.{Grew}
use Rattle.exprs.specs.Exprs.{Fits}
use Rattle.stmts.specs.Makes.{Regs, Stored}

-- the sections ss stand in the tables: instructions from k to k', words from number n on
pub record Wrote (ss : List SectionCode) (n k k' : ℕ) (is is' se se' : List ℕ) : Type 0 where
  pub code : is' ≡ sets is k (map insWord (allCode ss))
  pub ends : k' ≡ k + length (allCode ss)
  pub words : se' ≡ sets se n (runWords k ss)

-- ---- the first statement of a list, and the others

-- the list of the first alone
unfoldable pub only : Block → Block
only end = end
only (Block.goto e xs) = Block.goto e end
only (ite c t f xs) = ite c t f end
only (Block.incdec i x xs) = Block.incdec i x end
only (assign x o e xs) = assign x o e end

unfoldable pub rest : Block → Block
rest end = end
rest (Block.goto e xs) = xs
rest (ite c t f xs) = xs
rest (Block.incdec i x xs) = xs
rest (assign x o e xs) = xs

-- a statement before a list
abbrev pub before : Stmts → Stmts → Stmts
before nil s = s
before (plain c z) s = plain c s
before (Stmts.goto c r z) s = Stmts.goto c r s
before (Stmts.ite c r t f z) s = Stmts.ite c r t f s

-- behind a goto nothing is linked
abbrev pub onward : Bool → Stmts → Bool
onward l nil = l
onward l (plain c z) = l
onward l (Stmts.goto c r z) = false
onward l (Stmts.ite c r t f z) = l

-- the same of a list of the tree: behind its first statement
abbrev pub onwardB : Bool → Block → Bool
onwardB l end = l
onwardB l (Block.goto e xs) = false
onwardB l (ite c t f xs) = l
onwardB l (Block.incdec i x xs) = l
onwardB l (assign x o e xs) = l

abbrev pub isEnd : Block → Bool
isEnd end = true
isEnd (Block.goto e xs) = false
isEnd (ite c t f xs) = false
isEnd (Block.incdec i x xs) = false
isEnd (assign x o e xs) = false

-- is it one statement?
abbrev pub Single : Stmts → Type 0
Single nil = ⊥
Single (plain c z) = z ≡ nil
Single (Stmts.goto c r z) = z ≡ nil
Single (Stmts.ite c r t f z) = z ≡ nil

-- ---- contracts

-- a list's sections from number n on, left to k; l: it is linked
pub record Listed (m e : ℕ) (l : Bool) (n k : ℕ) (b : Lent) (c : Counters) (t t' : Lent) (se se' : List ℕ) (c' : Counters) (p : Stmts × CodegenData) : Type 0 where
  pub regs : Regs m e b c' t' p.1
  pub wrote : Wrote (stmtSections l e n k p.0) n c.at c'.at t.instrs t'.instrs se se'

pub record Lists (m : ℕ) (x : Block) (l : Bool) (n k : ℕ) (c : Counters) (t t' : Lent) (se se' : List ℕ) (c' : Counters) : Type 0 where
  pub from : (e : ℕ) (b : Lent) (g : CodegenData) → Regs m e b c t g → Listed m e l n k b c t t' se se' c' (annotateStmts x g)

-- the same of an Ite's list, which makes a section even where it is empty; j is the join
pub record Branched (m e : ℕ) (n j : ℕ) (b : Lent) (c : Counters) (t t' : Lent) (se se' : List ℕ) (c' : Counters) (p : Stmts × CodegenData) : Type 0 where
  pub regs : Regs m e b c' t' p.1
  pub wrote : Wrote (orEmpty p.0 j (stmtSections true e n j p.0)) n c.at c'.at t.instrs t'.instrs se se'

pub record Branch (m : ℕ) (x : Block) (n j : ℕ) (c : Counters) (t t' : Lent) (se se' : List ℕ) (c' : Counters) : Type 0 where
  pub from : (e : ℕ) (b : Lent) (g : CodegenData) → Regs m e b c t g → Branched m e n j b c t t' se se' c' (annotateStmts x g)

-- ---- what the functions ask and give

-- how deep its Ites are nested
unfoldable pub deep : Block → ℕ
deep end = 0
deep (Block.goto e xs) = deep xs
deep (ite c t f xs) = max (suc (max (deep t) (deep f))) (deep xs)
deep (Block.incdec i x xs) = deep xs
deep (assign x o e xs) = deep xs

-- there is room for a part of the tree that counts k and makes w sections, the first with number j; n names are in their table
pub record Ample (k : Tally) (w n j : ℕ) (c : Counters) (il nl sl pl ml zl : ℕ) : Type 0 where
  pub fits : Fits k n c il nl sl pl ml
  pub sections : j + w ≤ zl
  pub sections-fit : j + w ≤ mostCount
  pub small : il < 65536

-- a list of `count` statements is held at node i of the table t over the file s, nested no deeper than `depth`
pub record Held (s t : List ℕ) (i count depth : ℕ) : Type 0 where
  pub known : ℕ
  pub block : Block
  pub last : ℕ
  pub held : HoldsB t s known count i block last
  pub inside : last ≤ length t
  pub short : length s ≤ mostBytes
  pub few : known ≤ 2 ^ nameBits
  pub shallow : deep block ≤ depth

-- and there is room for it
pub record ListReady (s t : List ℕ) (i count depth j : ℕ) (c : Counters) (il nl sl pl ml zl : ℕ) : Type 0 where
  pub list : Held s t i count depth
  pub ample : Ample (ofBlock list.block) (width list.block) list.known j c il nl sl pl ml zl

-- a part of the tree that counts k takes at most 9 instructions, 2 numbers and 3 values a node; its instructions are those of n nodes
abbrev pub GrewBy : ℕ → Tally → Counters → Counters → Type 0
GrewBy n k c c' = Grew c c' (instrsANode * n) (numbersANode * k.nodes) (3 * k.nodes) k.strings k.characters

-- of all its nodes
abbrev pub GrewAll : Tally → Counters → Counters → Type 0
GrewAll k = GrewBy k.nodes k

-- the list x is lowered; its nodes end at z, its sections at a number
pub record ListDone (m : ℕ) (x : Block) (z : ℕ) (l : Bool) (n k : ℕ) (c : Counters) (t t' : Lent) (se se' : List ℕ) (c' : Counters) (node number : ℕ) : Type 0 where
  pub does : Lists m x l n k c t t' se se' c'
  pub spent : GrewAll (ofBlock x) c c'
  pub node-is : node ≡ z
  pub number-is : number ≡ n + width x

pub record BranchDone (m : ℕ) (x : Block) (z : ℕ) (n j : ℕ) (c : Counters) (t t' : Lent) (se se' : List ℕ) (c' : Counters) (node : ℕ) : Type 0 where
  pub does : Branch m x n j c t t' se se' c'
  pub spent : GrewAll (ofBlock x) c c'
  pub node-is : node ≡ z

-- no table grew or shrank
pub record SameLengths (t t' : Lent) (se se' : List ℕ) : Type 0 where
  pub instrs : length t'.instrs ≡ length t.instrs
  pub numbers : length t'.numbers ≡ length t.numbers
  pub strings : length t'.strings ≡ length t.strings
  pub pool : length t'.pool ≡ length t.pool
  pub names : length t'.names ≡ length t.names
  pub sections : length se' ≡ length se

-- midway through a list of some kind: `others` of it are left, and whatever lowering them ends with (tables, section words, counters and two numbers),
-- the whole ends with
pub record Going {X : Type 0} (from : X → Type 0) (done : X → Lent → List ℕ → Counters → ℕ → ℕ → Type 0) (whole : Lent → List ℕ → Counters → ℕ → ℕ → Type 0) : Type 0 where
  pub others : X
  pub held : from others
  pub goes : (t : Lent) (se : List ℕ) (c : Counters) (a b : ℕ) → done others t se c a b → whole t se c a b

-- of a list of statements that ends at node z, `left` from node i on are left
pub record ListMid (s t : List ℕ) (i0 count depth : ℕ) (l0 : Bool) (n0 k : ℕ) (c0 : Counters) (t0 : Lent) (se0 : List ℕ) (i left : ℕ) (l : Bool) (n : ℕ) (c : Counters) (t1 : Lent) (se : List ℕ) : Type 0 where
  pub ready : ListReady s t i left depth n c (length t1.instrs) (length t1.numbers) (length t1.strings) (length t1.pool) (length t1.names) (length se)
  pub going : (m : ℕ) (x : Block) (z : ℕ) → m ≤ 2 ^ nameBits → HoldsB t s m count i0 x z
      → Going (λ (y : Block). HoldsB t s m left i y z) (λ y t2 se2 c2 node number. ListDone m y z l n k c t1 t2 se se2 c2 node number)
      (λ t2 se2 c2 node number. ListDone m x z l0 n0 k c0 t0 t2 se0 se2 c2 node number)

-- the sections of a statement, by its node's word; and whether what stands behind it is linked
unfoldable pub madeBy : ℕ → ℕ
madeBy w = cond (eqb (kindIn w) iteKind) (2 + widthIn w + elseWidth w) 1

unfoldable pub linkedBy : ℕ → Bool → Bool
linkedBy w l = cond (eqb (kindIn w) gotoKind) false l

-- where a list's first statement goes on to: the others, from number n on, or what the list is left to
unfoldable pub entryBy : ℕ → ℕ → ℕ → ℕ
entryBy count n k = cond (eqb count 1) k n

-- an Ite's list: it makes a section even where it is empty
pub record BranchReady (s t : List ℕ) (i count depth j : ℕ) (c : Counters) (il nl sl pl ml zl : ℕ) : Type 0 where
  pub list : Held s t i count depth
  pub ample : Ample (ofBlock list.block) (orOne (width list.block)) list.known j c il nl sl pl ml zl

-- an Ite's lists of a and b statements, from node i on: they make v and w sections from number j on, and the join one more
pub record IteReady (s t : List ℕ) (i a b depth j v w : ℕ) (c : Counters) (il nl sl pl ml zl : ℕ) : Type 0 where
  pub nested : 0 < depth
  pub yes : Held s t i a (depth - 1)
  pub no : Held s t yes.last b (depth - 1)
  pub few-then : a < 64
  pub few-else : b < 64
  pub width-then : v ≡ orOne (width yes.block)
  pub width-else : w ≡ orOne (width no.block)
  pub same-known : no.known ≡ yes.known
  pub ample : Ample (both (ofBlock yes.block) (ofBlock no.block)) (v + w + 1) yes.known j c il nl sl pl ml zl

-- both lists and the join are lowered
pub record IteDone (m : ℕ) (x y : Block) (l : Bool) (j v w k : ℕ) (c : Counters) (t t' : Lent) (se se' : List ℕ) (c' : Counters) : Type 0 where
  pub mid-counters : Counters
  pub mid-tables : Lent
  pub mid-sections : List ℕ
  pub end-sections : List ℕ
  pub yes : Branch m x j (j + v + w) c t mid-tables se mid-sections mid-counters
  pub no : Branch m y (j + v) (j + v + w) mid-counters mid-tables t' mid-sections end-sections c'
  pub join : Stored (inner [] (link l k)) (j + v + w) c'.at c'.at t'.instrs t'.instrs end-sections se'
  pub spent : GrewAll (both (ofBlock x) (ofBlock y)) c c'
