-- What lowering an expression of the node table asks and does.
use Rattle.std.specs.Prelude.{◌≡◌, List, ℕ, ◌+◌, ◌*◌, ◌^◌, ◌≤◌, ◌<◌, length, get_or}
use Rattle.rules.specs.Constants.{mostBytes, nameBits, numberBits, charBits, byteBits, instrsANode, numbersANode, mostCount, mostChars}
use Rattle.rules.specs.Tree.{Expr, binop, unop, ident, number, string, Tally, ofExpr}
use Rattle.rules.specs.CodegenData.{Lower}
use Rattle.rules.specs.Annotate.{codegenFromExpr}
use Rattle.nodes.specs.Words.{binopKind, unopKind, kindIn}
use Rattle.nodes.specs.Holds.{HoldsE}
use Rattle.codegen.specs.declared.state.Counters.{Counters}
use Rattle.codegen.specs.Does.{Lent, Does}
use Rattle.codegen.specs.Costs.{Spent, Room, binopCost, unopCost}

-- the instructions of an expression
unfoldable pub exprCost : Expr → ℕ
exprCost (binop o l r) = 2 + binopCost o + exprCost l + exprCost r
exprCost (unop o r) = 1 + unopCost o + exprCost r
exprCost (Expr.incdec i x) = 2
exprCost (ident x) = 0
exprCost (number z) = 1
exprCost (string t) = 1

-- there is room for a part of the tree that counts k, in tables of so many words, and n names are in theirs
pub record Fits (k : Tally) (n : ℕ) (c : Counters) (il nl sl pl ml : ℕ) : Type 0 where
  pub room : Room c (instrsANode * k.nodes) (numbersANode * k.nodes) (3 * k.nodes) il nl
  pub strings : c.strings + k.strings ≤ sl
  pub strings-fit : c.strings + k.strings ≤ mostCount
  pub chars : c.chars + k.characters ≤ pl
  pub chars-fit : c.chars + k.characters ≤ mostCount
  pub names : n ≤ ml

-- an expression is held at node i of the table t over the file s, and there is room for it
pub record Ready (s t : List ℕ) (i : ℕ) (c : Counters) (il nl sl pl ml : ℕ) : Type 0 where
  pub names : ℕ
  pub tree : Expr
  pub last : ℕ
  pub held : HoldsE t s names i tree last
  pub inside : last ≤ length t
  pub short : length s ≤ mostBytes
  pub few : names ≤ 2 ^ nameBits
  pub fits : Fits (ofExpr tree) names c il nl sl pl ml

-- the same of a word without operands
pub record LeafReady (s : List ℕ) (w : ℕ) (c : Counters) (il nl sl pl ml : ℕ) : Type 0 where
  pub table : List ℕ
  pub node : ℕ
  pub names : ℕ
  pub tree : Expr
  pub last : ℕ
  pub held : HoldsE table s names node tree last
  pub word : get_or table node 0 ≡ w
  pub no-binop : kindIn w ≡ binopKind → ⊥
  pub no-unop : kindIn w ≡ unopKind → ⊥
  pub short : length s ≤ mostBytes
  pub few : names ≤ 2 ^ nameBits
  pub fits : Fits (ofExpr tree) names c il nl sl pl ml

-- what the expression e takes, and i instructions, n numbers and v values more
abbrev pub SpentOn : Expr → ℕ → ℕ → ℕ → Counters → Counters → Type 0
SpentOn e i n v c c' = Spent c c' (exprCost e + i) (numbersANode * (ofExpr e).nodes + n) (3 * (ofExpr e).nodes + v) (ofExpr e).strings (ofExpr e).characters

-- m, of a tree with k names, lowers e and takes so much more: from c and t to c' and t', its answer is r
pub record LowersTo (m : Lower ℕ) (k : ℕ) (e : Expr) (i n v : ℕ) (c : Counters) (t t' : Lent) (r : ℕ) (c' : Counters) : Type 0 where
  pub does : Does k m c t t' r c'
  pub spent : SpentOn e i n v c c'

-- the expression alone
abbrev pub Lowers : ℕ → Expr → Counters → Lent → Lent → ℕ → Counters → Type 0
Lowers k e = LowersTo (codegenFromExpr e) k e 0 0 0

-- the bits of a number stand at p, and those of n characters
pub record NumberAt (s : List ℕ) (p : ℕ) : Type 0 where
  pub short : length s ≤ mostBytes
  pub inside : p + numberBits ≤ byteBits * length s

pub record TextAt (s : List ℕ) (n p : ℕ) : Type 0 where
  pub short : length s ≤ mostBytes
  pub few : n ≤ mostChars
  pub inside : p + charBits * n ≤ byteBits * length s

-- there is room for a string of n characters
pub record StringRoom (c : Counters) (n sl pl : ℕ) : Type 0 where
  pub strings : c.strings < sl
  pub strings-fit : c.strings < mostCount
  pub chars : c.chars + n ≤ pl
  pub chars-fit : c.chars + n ≤ mostCount
