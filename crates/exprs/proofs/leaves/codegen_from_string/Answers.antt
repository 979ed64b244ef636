-- The string and then its value.
use Rattle.codegen.proofs.Laws.{then}
use Rattle.exprs.proofs.leaves.codegen_from_string.Goals as goal

pub returns-clause-does : goal.returns-clause-does
returns-clause-does c = record { does = then _ c.new_str-t.ensures.does.does c.make_val.ensures.does.does }
