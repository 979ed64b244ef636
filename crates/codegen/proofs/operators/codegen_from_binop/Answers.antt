-- The copy and then the operator.
use Rattle.codegen.proofs.Laws.{then}
use Rattle.codegen.proofs.operators.codegen_from_binop.Goals as goal

pub returns-clause-does : goal.returns-clause-does
returns-clause-does c = record { does = then _ c.copy_valreg-x.ensures.does.does c.apply_binop.ensures.does.does }
