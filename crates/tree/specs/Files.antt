-- What the steps that read lines and the whole file give: they refuse as the readers of rules do, or the tables hold what those read.
use Rattle.std.specs.Prelude.{Result, Ok, Err, ◌≡◌, List, [], ◌∷◌, ℕ, ◌+◌, ◌-◌, ◌*◌, ◌/◌, ◌%◌, ◌^◌, ◌≤◌, ◌<◌, length, get_or}
use Rattle.rules.specs.Constants.{byteBits, headBits, listBits, mostLines, mostNames}
use Rattle.rules.specs.Bits.{Res, refused, ok}
use Rattle.rules.specs.Tree.{Name, Block, Tree, ofLines}
use Rattle.rules.specs.Parse.{At, many, body, fill, file, parse, lineBlock}
use Rattle.rules.specs.Operations.{sizeOf}
use Rattle.rules.specs.Operations as O
use Rattle.bits.specs.Reads.{Gives, Fine, Moved, at}
use Rattle.bits.specs.declared.Cursor.{Cursor}
use Rattle.params.specs.Told.{numberOf, told}
use Rattle.params.specs.declared.refusal.Refusal.{Refusal}
use Rattle.names.specs.Names.{firstName, namesAt, endAt}
use Rattle.nodes.specs.Builds.{Agree, Counted, mostNodesOf}
use Rattle.nodes.specs.Width.{width}
use Rattle.nodes.specs.Holds.{HoldsB}
use Rattle.tree.specs.declared.Sizes.{Sizes}
use Rattle.tree.specs.declared.Head.{Head}

-- a line's word: its count of statements, its first node
unfoldable pub lineWord : ℕ → ℕ → ℕ
lineWord n i = n + 2 ^ listBits * i

abbrev pub countIn : ℕ → ℕ
countIn w = w % 2 ^ listBits

abbrev pub firstIn : ℕ → ℕ
firstIn w = w / 2 ^ listBits

-- the tables t and ls hold the lines k to k', from node i to node j
pub data HoldsL (t ls s : List ℕ) (m : ℕ) : ℕ → ℕ → List Block → ℕ → ℕ → Type 0 where
  no-line : {k i k' j : ℕ} → k ≡ k' → i ≡ j → HoldsL t ls s m k i [] k' j
  a-line : {k h i l k' j : ℕ} {b : Block} {bs : List Block} (n : ℕ) → n < 2 ^ listBits → get_or ls k 0 ≡ lineWord n i → HoldsB t s m n i b l → h ≡ k + 1 → HoldsL t ls s m h l bs k' j → HoldsL t ls s m k i (b ∷ bs) k' j

-- the sections of all lines, one by one
unfoldable pub widths : List Block → ℕ
widths [] = 0
widths (b ∷ bs) = width b + widths bs

-- all lines are read
pub record Lined (n total : ℕ) (s t ls : List ℕ) (c c' : Cursor) : Type 0 where
  pub val : List Block
  pub reads : Gives (many total (lineBlock n)) s (at c) (ok (val, at c'))
  pub holds : HoldsL t ls s n 0 c.nodes val total c'.nodes
  pub counts : Counted (ofLines val) (widths val) c c'
  pub many-lines : length val ≡ total
  pub fine : Fine s c'

abbrev pub LinesAt : ℕ → ℕ → List ℕ → List ℕ → List ℕ → Cursor → Result Cursor Refusal → Type 0
LinesAt n total s t ls c (Ok c') = Lined n total s t ls c c'
LinesAt n total s t ls c (Err k) = Gives (many total (lineBlock n)) s (at c) (refused (numberOf k))

pub record LinesRead (n total : ℕ) (s t ls : List ℕ) (c : Cursor) (st : Result Cursor Refusal) : Type 0 where
  pub here : LinesAt n total s t ls c st

-- midway: k lines are read, and c' stands behind them
pub record LinesMid (n total : ℕ) (s t ls : List ℕ) (c c' : Cursor) (k : ℕ) : Type 0 where
  pub pre : List Block → List Block
  pub goes : (xs : List Block) (e : At) → Gives (many (total - k) (lineBlock n)) s (at c') (ok (xs, e)) → Gives (many total (lineBlock n)) s (at c) (ok (pre xs, e))
  pub stops : (x : ℕ) → Gives (many (total - k) (lineBlock n)) s (at c') (refused x) → Gives (many total (lineBlock n)) s (at c) (refused x)
  pub holds : (u lu : List ℕ) (xs : List Block) (j : ℕ) → Agree c.nodes c'.nodes t u → Agree 0 k ls lu → HoldsL u lu s n k c'.nodes xs total j → HoldsL u lu s n 0 c.nodes (pre xs) total j
  pub counts : (xs : List Block) (e : Cursor) → Counted (ofLines xs) (widths xs) c' e → Counted (ofLines (pre xs)) (widths (pre xs)) c e
  pub many-lines : (xs : List Block) → length (pre xs) ≡ length xs + k
  pub after : c.nodes ≤ c'.nodes
  pub fine : Fine s c'

-- the fill is read
pub record Ended (s : List ℕ) (c c' : Cursor) : Type 0 where
  pub reads : Gives fill s (at c) (ok (tt, at c'))
  pub moved : Moved 0 0 c c'
  pub fine : Fine s c'

abbrev pub EndReadAt : List ℕ → Cursor → Result Cursor Refusal → Type 0
EndReadAt s c (Ok c') = Ended s c c'
EndReadAt s c (Err k) = Gives fill s (at c) (refused (numberOf k))

pub record EndRead (s : List ℕ) (c : Cursor) (st : Result Cursor Refusal) : Type 0 where
  pub here : EndReadAt s c st

-- before the first bit
abbrev pub origin : Cursor
origin = record { pos = 0; nodes = 0; statements = 0; sections = 0; strings = 0; chars = 0 }

abbrev pub start : At
start = at origin

-- a tree is held from node 0 on
abbrev pub HoldsTree : List ℕ → List ℕ → List ℕ → Tree → ℕ → Type 0
HoldsTree s t ls x j = HoldsL t ls s (length x.names) 0 0 x.lines (length x.lines) j

-- the head is read, and what stands behind it is the body of the file
pub record Headed (s : List ℕ) (h : Head) (c : Cursor) : Type 0 where
  pub goes : (res : Res (Tree × At)) → Gives (body h.lines h.names) s (at c) res → Gives file s start res
  pub few-lines : h.lines < 2 ^ headBits
  pub few : h.names ≤ mostNames
  pub place : c.pos ≡ firstName
  pub nodes : c.nodes ≡ 0
  pub statements : c.statements ≡ 0
  pub sections : c.sections ≡ 0
  pub strings : c.strings ≡ 0
  pub chars : c.chars ≡ 0
  pub fine : Fine s c

abbrev pub HeadAt : List ℕ → Result (Head × Cursor) Refusal → Type 0
HeadAt s (Ok p) = Headed s p.0 p.1
HeadAt s (Err k) = Gives file s start (refused (numberOf k))

pub record HeadRead (s : List ℕ) (st : Result (Head × Cursor) Refusal) : Type 0 where
  pub here : HeadAt s st

-- the names of the tree stand in the file, from behind the head
pub record Placed (s : List ℕ) (x : List Name) : Type 0 where
  pub are : x ≡ namesAt s (length x) firstName
  pub inside : endAt s (length x) firstName ≤ byteBits * length s

-- the whole file is read, whose head is h
pub record Filed (s t ls : List ℕ) (h : Head) (c : Cursor) : Type 0 where
  pub val : Tree
  pub reads : Gives file s start (ok (val, at c))
  pub holds : HoldsTree s t ls val c.nodes
  pub names : Placed s val.names
  pub nodes : c.nodes ≡ (ofLines val.lines).nodes
  pub statements : c.statements ≡ (ofLines val.lines).statements
  pub sections : c.sections ≡ widths val.lines
  pub strings : c.strings ≡ (ofLines val.lines).strings
  pub chars : c.chars ≡ (ofLines val.lines).characters
  pub few : length val.lines ≤ mostLines
  pub within : c.nodes ≤ mostNodesOf (length s)
  pub lines-are : h.lines ≡ length val.lines
  pub names-are : h.names ≡ length val.names

abbrev pub FileAt : List ℕ → List ℕ → List ℕ → Result (Head × Cursor) Refusal → Type 0
FileAt s t ls (Ok p) = Filed s t ls p.0 p.1
FileAt s t ls (Err k) = Gives file s start (refused (numberOf k))

pub record FileRead (s t ls : List ℕ) (st : Result (Head × Cursor) Refusal) : Type 0 where
  pub here : FileAt s t ls st

-- the answer as rules has it
abbrev pub sized : Sizes → O.Size
sized z = record { lines = z.lines; names = z.names; statements = z.statements; nodes = z.nodes; strings = z.strings; characters = z.characters }

abbrev pub sizeRes : Result Sizes Refusal → Res O.Size
sizeRes r = told sized r

-- the contract of read_tree: the tables hold the tree that parse gives, and the answer is its size; or parse refuses by that number
pub record Treed (s t ls : List ℕ) (z : Sizes) : Type 0 where
  pub val : Tree
  pub parses : parse s ≡ ok val
  pub holds : HoldsTree s t ls val z.nodes
  pub names : Placed s val.names
  pub size-is : sized z ≡ sizeOf val
  pub within : z.nodes ≤ mostNodesOf (length s)

abbrev pub TreeAt : List ℕ → List ℕ → List ℕ → Result Sizes Refusal → Type 0
TreeAt s t ls (Ok z) = Treed s t ls z
TreeAt s t ls (Err k) = parse s ≡ refused (numberOf k)

pub record TreeRead (s t ls : List ℕ) (r : Result Sizes Refusal) : Type 0 where
  pub here : TreeAt s t ls r
