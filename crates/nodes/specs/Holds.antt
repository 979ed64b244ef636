-- How the node table holds a tree: a word a node, children behind their parent in file order.
-- A relation says what stands in the nodes from i up to j; of the file it needs what a word does not keep, the bits of numbers and characters.
use Rattle.std.specs.Prelude.{◌≡◌, Bool, List, ℕ, ◌+◌, ◌*◌, ◌^◌, ◌≤◌, ◌<◌, ℤ, length, get_or}
use Rattle.std.proofs.Math.Option.{some}
use Rattle.std.proofs.Math.ListN.{get_elem?}
use Rattle.rules.specs.Constants.{flagBits, listBits, stringLengthBits, numberBits, charBits, byteBits}
use Rattle.rules.specs.Bits.{spelled, isOne}
use Rattle.rules.specs.Tree.{Binop, Unop, Assignop, Expr, Block, binop, unop, ident, number, string, goto, ite, assign, end}
use Rattle.rules.specs.Parse.{binops, unops, assignops, signed}
use Rattle.bits.specs.Reads.{charsAt}
use Rattle.nodes.specs.Words.{wordOf, iteWord, binopKind, unopKind, incdecKind, identKind, numberKind, stringKind, gotoKind, stepKind, assignKind}
use Rattle.nodes.specs.Width.{mostSections, width, orOne}

-- node i alone, with a flag b and the name x of m names
pub record Flag (kind m : ℕ) (t : List ℕ) (i b x j : ℕ) : Type 0 where
  pub last : j ≡ i + 1
  pub is : get_or t i 0 ≡ wordOf kind b x 0 j 0
  pub flag : b < 2 ^ flagBits
  pub known : x < m

-- the counts a and b of an Ite's lists x and y, and the sections that each of them makes
pub record Lists (a b v w : ℕ) (x y : Block) : Type 0 where
  pub few-then : a < 2 ^ listBits
  pub few-else : b < 2 ^ listBits
  pub small-then : v < mostSections
  pub small-else : w < mostSections
  pub width-then : v ≡ orOne (width x)
  pub width-else : w ≡ orOne (width y)

-- the table t, over the file s with m names, holds an expression from node i to node j
pub data HoldsE (t s : List ℕ) (m : ℕ) : ℕ → Expr → ℕ → Type 0 where
  at-binop : {i h j k : ℕ} {l r : Expr} (op : ℕ) (o : Binop) → get_elem? binops op ≡ some o → get_or t i 0 ≡ wordOf binopKind op 0 0 k 0 → h ≡ i + 1 → HoldsE t s m h l j → HoldsE t s m j r k → HoldsE t s m i (binop o l r) k
  at-unop : {i h j : ℕ} {r : Expr} (op : ℕ) (o : Unop) → get_elem? unops op ≡ some o → get_or t i 0 ≡ wordOf unopKind op 0 0 j 0 → h ≡ i + 1 → HoldsE t s m h r j → HoldsE t s m i (unop o r) j
  at-incdec : {i j : ℕ} (b : ℕ) (f : Bool) (x : ℕ) → isOne b ≡ f → Flag incdecKind m t i b x j → HoldsE t s m i (Expr.incdec f x) j
  at-ident : {i j : ℕ} (x : ℕ) → j ≡ i + 1 → get_or t i 0 ≡ wordOf identKind 0 x 0 j 0 → x < m → HoldsE t s m i (ident x) j
  at-number : {i j : ℕ} (p : ℕ) (z : ℤ) → j ≡ i + 1 → get_or t i 0 ≡ wordOf numberKind 0 0 p j 0 → p + numberBits ≤ byteBits * length s → signed (spelled s numberBits p) ≡ z → HoldsE t s m i (number z) j
  at-string : {i j : ℕ} (l p : ℕ) (x : List ℕ) → j ≡ i + 1 → get_or t i 0 ≡ wordOf stringKind 0 l p j 0 → l < 2 ^ stringLengthBits → p + charBits * l ≤ byteBits * length s → charsAt s l p ≡ x → HoldsE t s m i (string x) j

-- a list of n statements from node i to node z; the first statement ends at l, and k statements stand behind it
pub data HoldsB (t s : List ℕ) (m : ℕ) : ℕ → ℕ → Block → ℕ → Type 0 where
  at-end : {n i z : ℕ} → n ≡ 0 → i ≡ z → HoldsB t s m n i end z
  at-goto : {n k i h l z : ℕ} {e : Expr} {xs : Block} → n ≡ k + 1 → get_or t i 0 ≡ wordOf gotoKind 0 0 0 l 0 → h ≡ i + 1 → HoldsE t s m h e l → HoldsB t s m k l xs z → HoldsB t s m n i (goto e xs) z
  at-ite : {n k i h j j' l z : ℕ} {e : Expr} {x y xs : Block} (a b v w : ℕ) → n ≡ k + 1 → get_or t i 0 ≡ iteWord a b v w l → Lists a b v w x y → h ≡ i + 1 → HoldsE t s m h e j → HoldsB t s m a j x j' → HoldsB t s m b j' y l → HoldsB t s m k l xs z → HoldsB t s m n i (ite e x y xs) z
  at-step : {n k i l z : ℕ} {xs : Block} (b : ℕ) (f : Bool) (x : ℕ) → n ≡ k + 1 → isOne b ≡ f → Flag stepKind m t i b x l → HoldsB t s m k l xs z → HoldsB t s m n i (Block.incdec f x xs) z
  at-assign : {n k i h l z : ℕ} {e : Expr} {xs : Block} (x op : ℕ) (o : Assignop) → n ≡ k + 1 → get_elem? assignops op ≡ some o → get_or t i 0 ≡ wordOf assignKind op x 0 l 0 → x < m → h ≡ i + 1 → HoldsE t s m h e l → HoldsB t s m k l xs z → HoldsB t s m n i (assign x o e xs) z
