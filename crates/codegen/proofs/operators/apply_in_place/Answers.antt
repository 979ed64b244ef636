-- The instruction, and the left register as the answer.
use Rattle.std.proofs.Common.{◌∙◌, refl}
use Rattle.codegen.proofs.Forms.{as-in-place}
use Rattle.codegen.proofs.Laws.{then, done, same, plain₂}
use Rattle.codegen.proofs.operators.apply_in_place.Goals as goal

pub returns-clause-does : goal.returns-clause-does
returns-clause-does c = record { does = same (as-in-place _ _ _) (then _ (c.emit.ensures.does _ (c.of_two.ensures ∙ plain₂ _ _ c.requires.1 refl _ _)).does done) }
