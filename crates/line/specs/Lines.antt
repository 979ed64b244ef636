-- A line: its first statement's own section goes to the line's number, a placeholder to where it was made, all others behind.
use Rattle.rules.specs.Constants.{instrsANode}
use Rattle.std.specs.Prelude.{◌≡◌, true, List, [], ◌∷◌, map, ℕ, ◌+◌, ◌*◌, ◌≤◌, ◌<◌, length}
use Rattle.std.proofs.lemmas.List.Edits.{sets}
use Rattle.rules.specs.Word.{insWord}
use Rattle.rules.specs.Tree.{Block, ofBlock}
use Rattle.rules.specs.Machine.{SectionCode}
use Rattle.rules.specs.Tables.{runWords, allCode}
use Rattle.rules.specs.Script.{Stmts}
use Rattle.rules.specs.Assemble.{stmtSections, headOf, tailOf}
use Rattle.rules.specs.CodegenData.{CodegenData}
use Rattle.rules.specs.Annotate.{annotateStmts}
use Rattle.nodes.specs.Width.{width}
use Rattle.codegen.specs.declared.state.Counters.{Counters}
use Rattle.codegen.specs.Does.{Lent}
use Rattle.stmts.specs.Makes.{Regs, placed}
use Rattle.stmts.specs.Lists.{rest, ListReady, GrewBy}
use Rattle.stmts.specs.Parts.{ownCost, insideTally}

-- the nodes behind the first statement's own
unfoldable pub innerNodes : Block → ℕ
innerNodes x = (insideTally x).nodes + (ofBlock (rest x)).nodes

-- sections that stand in two places of the tables: hs with words from `line` on and instructions from `head`, ts from n and `at`
pub record Parted (hs ts : List SectionCode) (line n head at head' at' : ℕ) (is is' se se' : List ℕ) : Type 0 where
  pub code : is' ≡ sets (sets is head (map insWord (allCode hs))) at (map insWord (allCode ts))
  pub heads-end : head' ≡ head + length (allCode hs)
  pub tails-end : at' ≡ at + length (allCode ts)
  pub words : se' ≡ sets (sets se line (runWords head hs)) n (runWords at ts)

-- ---- contracts

-- a line of `count` statements is held at node i, and there is room for it: for its first section's instructions from `head` on, for the others
-- from the cursor on, for its other sections from number j on
pub record LineReady (s t : List ℕ) (i count depth line j head : ℕ) (c : Counters) (il nl sl pl ml zl : ℕ) : Type 0 where
  pub ready : ListReady s t i count depth j (placed c head) il nl sl pl ml zl
  pub behind : c.at + instrsANode * innerNodes ready.list.block ≤ il
  pub slot : line < zl

-- the line's sections are made: the first, a line start, at the line's number; the placeholder and the others from number n on
pub record LineWent (m e line n head head' : ℕ) (b : Lent) (c : Counters) (t t' : Lent) (se se' : List ℕ) (c' : Counters) (p : Stmts × CodegenData) : Type 0 where
  pub regs : Regs m e b c' t' p.1
  pub parted : Parted (headOf e (stmtSections true e n e p.0) ∷ []) (tailOf (stmtSections true e n e p.0)) line n head c.at head' c'.at t.instrs t'.instrs se se'

-- and the instructions behind the first section are those of the nodes behind its own
pub record LineDone (m : ℕ) (x : Block) (line n head : ℕ) (c : Counters) (t t' : Lent) (se se' : List ℕ) (head' : ℕ) (c' : Counters) (number : ℕ) : Type 0 where
  pub does : (e : ℕ) (b : Lent) (g : CodegenData) → Regs m e b c t g → LineWent m e line n head head' b c t t' se se' c' (annotateStmts x g)
  pub cost : head' ≡ head + ownCost x
  pub spent : GrewBy (innerNodes x) (ofBlock x) c c'
  pub number-is : number ≡ n + width x
