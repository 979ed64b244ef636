-- The number and then its value.
use Rattle.std.proofs.Common.{w64}
use Rattle.std.proofs.lemmas.Int.{to_z-of_z}
use Rattle.codegen.proofs.Laws.{then}
use Rattle.exprs.proofs.Texts.{as-signed}
use Rattle.exprs.proofs.leaves.codegen_from_number.Goals as goal

pub returns-clause-does : goal.returns-clause-does
returns-clause-does c =
    let z = to_z-of_z w64 c.cast_signed-z.result (record { sfits = c.cast_signed-z.type_inv }) in
    record { does = then _ (rw (z, c.cast_signed-z.ensures, as-signed, c.peek.ensures) at c.new_num-n.ensures.does).does c.make_val.ensures.does.does }
