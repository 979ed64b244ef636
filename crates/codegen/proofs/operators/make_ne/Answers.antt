-- A new number, Eq, NotNum and the value, one after another.
use Rattle.codegen.proofs.Forms.{as-ne}
use Rattle.codegen.proofs.Laws.{then, same}
use Rattle.codegen.proofs.operators.make_ne.Goals as goal

pub returns-clause-does : goal.returns-clause-does
returns-clause-does c = record { does = same (as-ne _ _) (then _ c.new_num-n.ensures.does.does (then _ (c.emit-c1.ensures.does _ c.of_three.ensures).does (then _ (c.emit-c2.ensures.does _ c.of_one.ensures).does c.make_val.ensures.does.does))) }
