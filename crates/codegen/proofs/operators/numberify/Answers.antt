-- The number and an error jump, one after another.
use Rattle.codegen.proofs.Forms.{as-numberify}
use Rattle.codegen.proofs.Laws.{then, done, same}
use Rattle.codegen.proofs.operators.numberify.Goals as goal

pub returns-clause-does : goal.returns-clause-does
returns-clause-does c = record { does = same (as-numberify _) (then _ c.make_num-n.ensures.does.does (then _ c.add_jmperr.ensures.does.does done)) }
