-- What a step that fills the node table gives: it refuses as a reader of rules does, or what that reader reads stands in the table.
use Rattle.std.specs.Prelude.{Result, Ok, Err, ◌≡◌, List, [], ◌∷◌, ℕ, ◌+◌, ◌-◌, ◌*◌, ◌^◌, ◌≤◌, ◌<◌, min, length, get_or}
use Rattle.rules.specs.Constants.{mostNodes, mostNames, listBits, flagBits}
use Rattle.rules.specs.Refusal.{unassigned}
use Rattle.rules.specs.Bits.{refused, ok}
use Rattle.rules.specs.Tree.{Tally, Expr, Block, ofExpr, ofBlock}
use Rattle.rules.specs.Parse.{Reader, At, expr, stmt, block, bits, nameOf, succeed, refuse, exprKinds, stmtKinds, incdecOf, identOf, numberOf, stringOf, ◌>>=◌}
use Rattle.bits.specs.Reads.{Gives, at, Fine}
use Rattle.bits.specs.declared.Cursor.{Cursor}
use Rattle.params.specs.Told.{numberOf as refusalNumber}
use Rattle.params.specs.declared.refusal.Refusal.{Refusal}
use Rattle.nodes.specs.Width.{mostSections, width, orOne}
use Rattle.nodes.specs.Holds.{HoldsE, HoldsB, Flag}

-- t' is as t from node i up to node j
pub record Agree (i j : ℕ) (t t' : List ℕ) : Type 0 where
  pub same : (k : ℕ) → i ≤ k → k < j → get_or t' k 0 ≡ get_or t k 0

-- from b the tally k and w sections lead to c
pub record Counted (k : Tally) (w : ℕ) (b c : Cursor) : Type 0 where
  pub nodes : c.nodes ≡ b.nodes + k.nodes
  pub statements : c.statements ≡ b.statements + k.statements
  pub sections : c.sections ≡ b.sections + w
  pub strings : c.strings ≡ b.strings + k.strings
  pub chars : c.chars ≡ b.chars + k.characters

-- r reads a value from c to c', whose nodes stand in t' from those of b on; below them the table is as it was
pub record Built {A : Type 0} (r : Reader A) (H : List ℕ → ℕ → A → ℕ → Type 0) (Q : A → Cursor → Cursor → Type 0) (s t t' : List ℕ) (b c c' : Cursor) : Type 0 where
  pub val : A
  pub reads : Gives r s (at c) (ok (val, at c'))
  pub holds : H t' b.nodes val c'.nodes
  pub kept : Agree 0 b.nodes t t'
  pub counts : Q val b c'
  pub fine : Fine s c'

abbrev pub BuildsAt : {A : Type 0} → Reader A → (List ℕ → ℕ → A → ℕ → Type 0) → (A → Cursor → Cursor → Type 0) → List ℕ → List ℕ → List ℕ → Cursor → Cursor → Result Cursor Refusal → Type 0
BuildsAt r H Q s t t' b c (Ok c') = Built r H Q s t t' b c c'
BuildsAt r H Q s t t' b c (Err k) = Gives r s (at c) (refused (refusalNumber k))

-- the contract of a step
pub record Builds {A : Type 0} (r : Reader A) (H : List ℕ → ℕ → A → ℕ → Type 0) (Q : A → Cursor → Cursor → Type 0) (s t t' : List ℕ) (b c : Cursor) (st : Result Cursor Refusal) : Type 0 where
  pub here : BuildsAt r H Q s t t' b c st

-- ---- an expression

abbrev pub heldE : List ℕ → ℕ → List ℕ → ℕ → Expr → ℕ → Type 0
heldE s n t i e j = HoldsE t s n i e j

abbrev pub countE : Expr → Cursor → Cursor → Type 0
countE e b c = Counted (ofExpr e) 0 b c

abbrev pub ReadsExpr : List ℕ → List ℕ → List ℕ → Cursor → ℕ → ℕ → Result Cursor Refusal → Type 0
ReadsExpr s t t' c n d r = Builds (expr n d) (heldE s n) countE s t t' c c r

-- ---- a list of v statements

pub record HeldB (s : List ℕ) (n v : ℕ) (t : List ℕ) (i : ℕ) (x : Block) (j : ℕ) : Type 0 where
  pub is : HoldsB t s n v i x j
  pub few : v < 2 ^ listBits

abbrev pub countB : Block → Cursor → Cursor → Type 0
countB x b c = Counted (ofBlock x) (width x) b c

-- behind its count
abbrev pub ReadsBlock : List ℕ → List ℕ → List ℕ → Cursor → ℕ → ℕ → ℕ → Result Cursor Refusal → Type 0
ReadsBlock s t t' c n d k r = Builds (block k (stmt n d)) (HeldB s n k) countB s t t' c c r

-- with its count, which the step answers
unfoldable pub listR : ℕ → ℕ → Reader Block
listR n d = do
  k ← bits listBits
  block k (stmt n d)

abbrev pub ListAt : List ℕ → List ℕ → List ℕ → Cursor → ℕ → ℕ → Result (ℕ × Cursor) Refusal → Type 0
ListAt s t t' c n d (Ok p) = Built (listR n d) (HeldB s n p.0) countB s t t' c c p.1
ListAt s t t' c n d (Err k) = Gives (listR n d) s (at c) (refused (refusalNumber k))

pub record ReadsList (s t t' : List ℕ) (c : Cursor) (n d : ℕ) (st : Result (ℕ × Cursor) Refusal) : Type 0 where
  pub here : ListAt s t t' c n d st

-- ---- a statement, as what it puts before a list

pub record HeldS (s : List ℕ) (n : ℕ) (t : List ℕ) (i : ℕ) (f : Block → Block) (l : ℕ) : Type 0 where
  pub puts : (u : List ℕ) (m k : ℕ) (xs : Block) (z : ℕ) → m ≡ k + 1 → Agree i l t u → HoldsB u s n k l xs z → HoldsB u s n m i (f xs) z
  pub grows : i < l

abbrev pub heldS : List ℕ → ℕ → List ℕ → ℕ → (Block → Block) → ℕ → Type 0
heldS s n t i f l = HeldS s n t i f l

pub record Adds (f : Block → Block) (b c : Cursor) : Type 0 where
  pub adds : (xs : Block) (e : Cursor) → countB xs c e → countB (f xs) b e

abbrev pub countS : (Block → Block) → Cursor → Cursor → Type 0
countS f b c = Adds f b c

abbrev pub ReadsStmt : List ℕ → List ℕ → List ℕ → Cursor → ℕ → ℕ → Result Cursor Refusal → Type 0
ReadsStmt s t t' c n d r = Builds (stmt n d) (heldS s n) countS s t t' c c r

-- ---- what the steps ask

-- the nodes of a file of so many bytes, each of two bits at least, are no more than this
abbrev pub mostNodesOf : ℕ → ℕ
mostNodesOf bytes = min mostNodes (4 * bytes)

pub record Ready (s t : List ℕ) (c : Cursor) (n : ℕ) : Type 0 where
  pub fine : Fine s c
  pub room : mostNodesOf (length s) ≤ length t
  pub names : n ≤ mostNames

-- node i has begun, and c stands behind its kind
pub record Begun (s t : List ℕ) (c : Cursor) (n i : ℕ) : Type 0 where
  pub ready : Ready s t c n
  pub begun : c.nodes ≡ i + 1
  pub strings : c.strings < c.nodes

-- so has the statement i
pub record BegunStmt (s t : List ℕ) (c : Cursor) (n i : ℕ) : Type 0 where
  pub node : Begun s t c n i
  pub statements : 0 < c.statements
  pub sections : 0 < c.sections

-- what was counted before node i, an expression or a statement, behind whose kind c stands
abbrev pub before : ℕ → Cursor → Cursor
before i c = record { pos = c.pos; nodes = i; statements = c.statements; sections = c.sections; strings = c.strings; chars = c.chars }

abbrev pub beforeStmt : ℕ → Cursor → Cursor
beforeStmt i c = record { pos = c.pos; nodes = i; statements = c.statements - 1; sections = c.sections - 1; strings = c.strings; chars = c.chars }

-- behind an Ite whose lists began at the sections a and b: their widths and the join are counted
abbrev pub joined : ℕ → ℕ → Cursor → Cursor
joined a b c = record { pos = c.pos; nodes = c.nodes; statements = c.statements; sections = a + orOne (b - a) + orOne (c.sections - b) + 1; strings = c.strings; chars = c.chars }

-- the sections from a to b and from b to c are an Ite's lists
pub record Spans (a b c : ℕ) : Type 0 where
  pub first : a ≤ b
  pub second : b ≤ c
  pub small-first : b < a + mostSections
  pub small-second : c < b + mostSections
  pub all : c ≤ mostSections

-- ---- what stands behind a kind

unfoldable pub flagR : ℕ → Reader (ℕ × ℕ)
flagR n = do
  b ← bits flagBits
  x ← nameOf n
  succeed (b, x)

abbrev pub heldF : ℕ → ℕ → List ℕ → ℕ → ℕ × ℕ → ℕ → Type 0
heldF kind n t i p j = Flag kind n t i p.0 p.1 j

-- one node more, whatever it is
pub record OneNode (b c : Cursor) : Type 0 where
  pub nodes : c.nodes ≡ b.nodes + 1
  pub statements : c.statements ≡ b.statements
  pub sections : c.sections ≡ b.sections
  pub strings : c.strings ≡ b.strings
  pub chars : c.chars ≡ b.chars

abbrev pub countF : ℕ × ℕ → Cursor → Cursor → Type 0
countF p b c = OneNode b c

unfoldable pub exprArm : ℕ → ℕ → ℕ → Reader Expr
exprArm n d k = get_or (exprKinds n (expr n d)) k (refuse unassigned)

-- an expression's, but for those with operands
unfoldable pub leafR : ℕ → ℕ → Reader Expr
leafR n k = get_or (refuse unassigned ∷ refuse unassigned ∷ incdecOf n ∷ identOf n ∷ numberOf ∷ stringOf ∷ []) k (refuse unassigned)

unfoldable pub stmtArm : ℕ → ℕ → ℕ → Reader (Block → Block)
stmtArm n d k = get_or (stmtKinds n (expr n d) (stmt n d)) k (refuse unassigned)

-- midway through a list of `total` statements that began at c0: `left` are left from c on, and what they give the whole gives with `pre` before it
pub record Midway (n dep : ℕ) (s t0 t : List ℕ) (c0 c : Cursor) (total left : ℕ) : Type 0 where
  pub pre : Block → Block
  pub goes : (xs : Block) (e : At) → Gives (block left (stmt n dep)) s (at c) (ok (xs, e)) → Gives (block total (stmt n dep)) s (at c0) (ok (pre xs, e))
  pub stops : (x : ℕ) → Gives (block left (stmt n dep)) s (at c) (refused x) → Gives (block total (stmt n dep)) s (at c0) (refused x)
  pub holds : (u : List ℕ) (xs : Block) (j : ℕ) → Agree c0.nodes c.nodes t u → HoldsB u s n left c.nodes xs j → HoldsB u s n total c0.nodes (pre xs) j
  pub counts : (xs : Block) (e : Cursor) → countB xs c e → countB (pre xs) c0 e
  pub kept : Agree 0 c0.nodes t0 t
  pub after : c0.nodes ≤ c.nodes
  pub fine : Fine s c
