-- The size of the tree that is read.
use Rattle.tree.proofs.Laws.{size-from}
use Rattle.tree.proofs.size_by.Goals as goal

pub returns : goal.returns
returns g c = size-from c.read_tree.ensures
