-- What the steps of lower ask and leave.
use Rattle.std.specs.Prelude.{◌≡◌, true, List, ℕ, ◌≤◌, length}
use Rattle.rules.specs.Bits.{ok}
use Rattle.rules.specs.Constants.{mostNodes, mostLines}
use Rattle.rules.specs.Tree.{Tree}
use Rattle.rules.specs.Parse.{parse}
use Rattle.rules.specs.Tables.{Tables, Counts}
use Rattle.rules.specs.Lowered.{Options, assemble}
use Rattle.rules.specs.Operations.{Size, sizeOf, estimate}
use Rattle.rules.specs.Operations as Operations
use Rattle.tree.specs.Files.{HoldsTree, Placed}
use Rattle.program.specs.Program.{Laid}

-- a size within the limits
pub record Limited (z : Size) : Type 0 where
  pub lines : z.lines ≤ mostLines
  pub statements : z.statements ≤ mostNodes
  pub nodes : z.nodes ≤ mostNodes

-- the tables t and ls hold the tree of the file s, and u are its estimates
pub record Given (s t ls : List ℕ) (u : Counts) : Type 0 where
  pub tree : Tree
  pub last : ℕ
  pub parses : parse s ≡ ok tree
  pub held : HoldsTree s t ls tree last
  pub placed : Placed s tree.names
  pub inside : last ≤ length t
  pub line-words : length tree.lines ≤ length ls
  pub estimates : u ≡ estimate (sizeOf tree)

-- and the lent tables l have room for them
pub record Roomy (s t ls : List ℕ) (u : Counts) (l : Tables) : Type 0 where
  pub given : Given s t ls u
  pub room : Operations.holds l u ≡ true

-- the words of the tree's machine before replacement are laid into the tables; its instructions keep within the estimate
pub record Assembled (o : Options) (s : List ℕ) (u : Counts) (l l' : Tables) (c : Counts) : Type 0 where
  pub tree : Tree
  pub parses : parse s ≡ ok tree
  pub estimates : u ≡ estimate (sizeOf tree)
  pub laid : Laid (assemble o tree) l l' c
  pub within : c.instrs ≤ u.instrs
