-- What lowering a whole tree asks, and what it leaves: the words of the machine before replacement, from the start of each table on.
use Rattle.std.specs.Prelude.{◌≡◌, List, ◌++◌, ℕ, ◌+◌, ◌*◌, ◌^◌, ◌≤◌, ◌<◌, length, drop}
use Rattle.rules.specs.Constants.{mostBytes, nameBits, mostDepth, mostNodes, instrsANode, numbersANode, mostCount, mostLines}
use Rattle.rules.specs.Tree.{Tree, ofLines}
use Rattle.rules.specs.Machine.{Machine}
use Rattle.rules.specs.Tables.{Tables, Counts, encode, countsOf}
use Rattle.rules.specs.Lowered.{Options}
use Rattle.tree.specs.Files.{HoldsTree, Placed, widths}
use Rattle.params.specs.declared.options.CodegenOptions.{CodegenOptions}
use Rattle.program.specs.Script.{deepest}

abbrev pub optionsTold : CodegenOptions → Options
optionsTold o = record { locals = o.protect_locals; globals = o.protect_globals }

-- words from the start of a table on
abbrev pub over : {A : Type 0} → List A → List A → List A
over ws t = ws ++ drop (length ws) t

-- the words of m are laid into the tables
pub record Laid (m : Machine) (t t' : Tables) (u : Counts) : Type 0 where
  pub sections : t'.sections ≡ over (encode m).sections t.sections
  pub instrs : t'.instrs ≡ over (encode m).instrs t.instrs
  pub numbers : t'.numbers ≡ over (encode m).numbers t.numbers
  pub strings : t'.strings ≡ over (encode m).strings t.strings
  pub pool : t'.pool ≡ over (encode m).pool t.pool
  pub names : t'.names ≡ over (encode m).names t.names
  pub counts : u ≡ countsOf m

-- a tree of L lines and n names is held in the tables t and ls, and there is room for its machine
pub record TreeReady (s t ls : List ℕ) (L n il nl sl pl ml zl : ℕ) : Type 0 where
  pub tree : Tree
  pub last : ℕ
  pub held : HoldsTree s t ls tree last
  pub placed : Placed s tree.names
  pub lines : length tree.lines ≡ L
  pub names : length tree.names ≡ n
  pub short : length s ≤ mostBytes
  pub inside : last ≤ length t
  pub line-words : L ≤ length ls
  pub few-lines : L ≤ mostLines
  pub few-names : n ≤ 2 ^ nameBits
  pub few-nodes : (ofLines tree.lines).nodes ≤ mostNodes
  pub shallow : deepest tree.lines ≤ mostDepth
  pub few-strings : (ofLines tree.lines).strings ≤ mostCount
  pub few-characters : (ofLines tree.lines).characters ≤ mostCount
  pub few-sections : L + widths tree.lines ≤ mostCount
  pub room : instrsANode * (ofLines tree.lines).nodes ≤ il
  pub numbers-room : numbersANode * (ofLines tree.lines).nodes ≤ nl
  pub strings-room : (ofLines tree.lines).strings ≤ sl
  pub pool-room : (ofLines tree.lines).characters ≤ pl
  pub names-room : n ≤ ml
  pub sections-room : L + widths tree.lines ≤ zl
  pub small : il < 65536
