-- The name's register, its change and an error jump, one after another.
use Rattle.codegen.proofs.Forms.{as-incdec}
use Rattle.codegen.proofs.Laws.{then, done, same, incdec-word, incdec-shape}
use Rattle.codegen.proofs.operators.codegen_incdec.Goals as goal

pub of_one-w-requires : goal.of_one-w-requires
of_one-w-requires c = incdec-shape _ _ c.incdec_op.ensures

pub returns-clause-does : goal.returns-clause-does
returns-clause-does c = λ n h. record { does = same (as-incdec _ _) (then _ (c.get_variable-v.ensures.does n h).does (then _ (c.emit-c1.ensures.does _ (incdec-word _ _ _ _ _ c.of_one-w.ensures c.incdec_op.ensures)).does (then _ c.add_jmperr.ensures.does.does done))) }
