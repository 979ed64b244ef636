-- NotVal as a number and the value, one after another.
use Rattle.codegen.proofs.Forms.{as-not}
use Rattle.codegen.proofs.Laws.{then, same}
use Rattle.codegen.proofs.operators.make_not.Goals as goal

pub returns-clause-does : goal.returns-clause-does
returns-clause-does c = record { does = same (as-not _) (then _ c.make_num-n.ensures.does.does c.make_val.ensures.does.does) }
