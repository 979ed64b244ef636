-- What the library's move within a slice leaves.
use Rattle.tables.proofs.InPlace.{down_copied}
use Rattle.tables.proofs.shift.move_down.Goals as goal

pub returns : goal.returns
returns g c = down_copied _ _ _ _ _ c.requires.0 c.requires.1 c.copy_within.ensures.after
