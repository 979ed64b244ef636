-- All lines: their first sections stand at the lines' numbers, their others behind, and so do the instructions.
use Rattle.std.specs.Prelude.{◌≡◌, List, [], ◌∷◌, ℕ, ◌+◌, ◌*◌, ◌^◌, ◌≤◌, max, length}
use Rattle.rules.specs.Constants.{mostBytes, nameBits, mostDepth, mostNodes, instrsANode, mostLines}
use Rattle.rules.specs.Tree.{Block, ofLines}
use Rattle.rules.specs.Script.{Script}
use Rattle.rules.specs.Assemble.{heads, tails}
use Rattle.rules.specs.CodegenData.{CodegenData}
use Rattle.rules.specs.Annotate.{annotateLines}
use Rattle.tree.specs.Files.{HoldsL, widths}
use Rattle.codegen.specs.declared.state.Counters.{Counters}
use Rattle.words.specs.declared.instr.Section.{Section}
use Rattle.codegen.specs.Does.{Lent}
use Rattle.stmts.specs.Makes.{Regs, placed}
use Rattle.stmts.specs.Lists.{deep, Ample, GrewBy, Going}
use Rattle.stmts.specs.Parts.{ownCost}
use Rattle.line.specs.Lines.{innerNodes, Parted}

-- the own instructions of the lines' first statements, and the nodes behind those
unfoldable pub ownCosts : List Block → ℕ
ownCosts [] = 0
ownCosts (b ∷ bs) = ownCost b + ownCosts bs

unfoldable pub innerAll : List Block → ℕ
innerAll [] = 0
innerAll (b ∷ bs) = innerNodes b + innerAll bs

-- how deep their Ites are nested
unfoldable pub deepest : List Block → ℕ
deepest [] = 0
deepest (b ∷ bs) = max (deep b) (deepest bs)

-- the counters with errors to another line
abbrev pub aimedAt : Counters → Section → Counters
aimedAt c e = record { at = c.at; numbers = c.numbers; strings = c.strings; chars = c.chars; values = c.values; err = e }

-- the lines from line k to line L are held in the tables t and ls over the file s
pub record HeldLines (s t ls : List ℕ) (k L : ℕ) : Type 0 where
  pub known : ℕ
  pub blocks : List Block
  pub first : ℕ
  pub last : ℕ
  pub held : HoldsL t ls s known k first blocks L last
  pub inside : last ≤ length t
  pub short : length s ≤ mostBytes
  pub few : known ≤ 2 ^ nameBits
  pub words : L ≤ length ls

-- all L lines are held
pub record LinesAt (t ls : List ℕ) (L : ℕ) : Type 0 where
  pub file : List ℕ
  pub lines : HeldLines file t ls 0 L
  pub small : lines.last ≤ mostNodes
  pub few-nodes : (ofLines lines.blocks).nodes ≤ mostNodes

-- `sum` counts the lines before line k: with the others it counts all
pub record Summed (t ls s : List ℕ) (m L k sum : ℕ) (bs : List Block) (z : ℕ) : Type 0 where
  pub rest : List Block
  pub first : ℕ
  pub held : HoldsL t ls s m k first rest L z
  pub all : sum + ownCosts rest ≡ ownCosts bs

pub record CostsMid (t ls : List ℕ) (L k sum : ℕ) : Type 0 where
  pub sums : (s : List ℕ) (m : ℕ) (bs : List Block) (i z : ℕ) → length s ≤ mostBytes → m ≤ 2 ^ nameBits → HoldsL t ls s m 0 i bs L z → Summed t ls s m L k sum bs z

-- and there is room for them: for their first sections' instructions from `head` on, for the others from the cursor on
pub record LinesReady (s t ls : List ℕ) (k L number head : ℕ) (c : Counters) (il nl sl pl ml zl : ℕ) : Type 0 where
  pub lines : HeldLines s t ls k L
  pub few-lines : L ≤ mostLines
  pub shallow : deepest lines.blocks ≤ mostDepth
  pub ample : Ample (ofLines lines.blocks) (widths lines.blocks) lines.known number (placed c head) il nl sl pl ml zl
  pub behind : c.at + instrsANode * innerAll lines.blocks ≤ il
  pub first-lines : L ≤ number

-- their sections are made
pub record LinesWent (m L k n head head' : ℕ) (b : Lent) (c : Counters) (t t' : Lent) (se se' : List ℕ) (c' : Counters) (p : Script × CodegenData) : Type 0 where
  pub regs : Regs m c'.err.0 b c' t' p.1
  pub parted : Parted (heads L k n p.0) (tails L k n p.0) k n head c.at head' c'.at t.instrs t'.instrs se se'

-- where the first sections' instructions end before the others begin
pub record LinesDone (m L k : ℕ) (bs : List Block) (n head : ℕ) (c : Counters) (t t' : Lent) (se se' : List ℕ) (head' : ℕ) (c' : Counters) (number : ℕ) : Type 0 where
  pub does : (b : Lent) (g : CodegenData) → Regs m c.err.0 b c t g → head + ownCosts bs ≤ c.at → L ≤ n → LinesWent m L k n head head' b c t t' se se' c' (annotateLines bs g)
  pub cost : head' ≡ head + ownCosts bs
  pub spent : GrewBy (innerAll bs) (ofLines bs) c c'
  pub number-is : number ≡ n + widths bs

-- midway, before line k
pub record LinesMid (s t ls : List ℕ) (L n0 head0 : ℕ) (c0 : Counters) (t0 : Lent) (se0 : List ℕ) (k n head : ℕ) (c : Counters) (t1 : Lent) (se : List ℕ) : Type 0 where
  pub ready : LinesReady s t ls k L n head c (length t1.instrs) (length t1.numbers) (length t1.strings) (length t1.pool) (length t1.names) (length se)
  pub going : (m : ℕ) (bs : List Block) (i z : ℕ) → m ≤ 2 ^ nameBits → HoldsL t ls s m 0 i bs L z
      → Going (λ (rest : List Block). (first : ℕ) × HoldsL t ls s m k first rest L z)
      (λ rest t2 se2 c2 head2 n2. LinesDone m L k rest n head c t1 t2 se se2 head2 c2 n2)
      (λ t2 se2 c2 head2 n2. LinesDone m L 0 bs n0 head0 c0 t0 t2 se0 se2 head2 c2 n2)
