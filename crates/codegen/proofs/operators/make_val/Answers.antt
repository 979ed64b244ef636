-- A new register and the instruction, whose opcode is the register's own, one after another.
use Rattle.std.proofs.Common.{◌∙◌}
use Rattle.codegen.proofs.Forms.{as-val}
use Rattle.codegen.proofs.Laws.{then, done, same, plain₂}
use Rattle.codegen.proofs.operators.make_val.Goals as goal

pub of_two-w-requires : goal.of_two-w-requires
of_two-w-requires g c = rw c.TO_VAL.ensures g.met.A.ToVal.shaped

pub returns-clause-does : goal.returns-clause-does
returns-clause-does g c =
    let t = g.met.A.ToVal in
    record { does = same (as-val _ _) (then _ c.new_val-v.ensures.does.does (then _ (c.emit.ensures.does _ (rw c.TO_VAL.ensures at c.of_two-w.ensures ∙ plain₂ _ _ t.shaped t.lands _ _)).does done)) }
