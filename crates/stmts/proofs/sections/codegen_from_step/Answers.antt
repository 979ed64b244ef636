-- The step, and its section.
use Rattle.stmts.proofs.Makes.{makes-plain}
use Rattle.stmts.proofs.sections.codegen_from_step.Goals as goal

pub returns : goal.returns
returns c = λ n ns ss ps h. (makes-plain _ _ _ (c.codegen_incdec.ensures.does n h).does c.put_section.ensures (rw c.successor.ensures), c.codegen_incdec.ensures.spent)
