-- The words that finish leaves preserve the tree's reading: the contract of `finish` and `preservation` together say it. Assumes nothing.
use Rattle.std.specs.Prelude.{◌≡◌, List, ℕ}
use Rattle.std.proofs.Common.{sym, ap, ◌∙◌}
use Rattle.rules.specs.Bits.{Res, ok}
use Rattle.rules.specs.Tree.{Tree}
use Rattle.rules.specs.Parse.{parse}
use Rattle.rules.specs.Tables.{Tables, Counts, countsOf, decode}
use Rattle.rules.specs.Lowered.{Options, finished}
use Rattle.rules.specs.Operations.{finish}
use Rattle.rules.specs.Preservation.{Preserves}
use Rattle.walks.proofs.Theorems.{finish-preserves}

-- of a file s, the tables t and the counts u: decoded, they are the finished machine of the file's tree, and for every list of outcomes its
-- walk preserves the reading of the tree
pub record Preserved (o : Options) (s : List ℕ) (t : Tables) (u : Counts) : Type 0 where
  pub tree : Tree
  pub parsed : parse s ≡ ok tree
  pub counts : u ≡ countsOf (finished o tree)
  pub machine : decode t u ≡ ok (finished o tree)
  pub preserves : (os : List ℕ) → Preserves o tree os

-- every byte string that finish does not refuse: the premise is what the contract says where the answer is `Done`, with the tables t before,
-- and the tables t' and the counts u afterwards
pub preservation : (o : Options) (s : List ℕ) (t t' : Tables) (u : Counts) → (ok u, t') ≡ finish o s t → Preserved o s t' u
preservation o s t t' u e =
    let f = finish-preserves o s t u (sym (ap (λ (x : Res Counts × Tables). x.0) e)) in
    record {
      tree = f.tree;
      parsed = f.parsed;
      counts = f.counts;
      machine = ap (λ (x : Res Counts × Tables). decode x.1 u) e ∙ f.machine;
      preserves = f.preserves;
    }
