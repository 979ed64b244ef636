-- The value as a number, the operator on it and the value of that, one after another.
use Rattle.std.proofs.Common.{◌∙◌, refl}
use Rattle.codegen.proofs.Forms.{as-in-number}
use Rattle.codegen.proofs.Laws.{then, same, plain₁}
use Rattle.codegen.proofs.operators.apply_in_number.Goals as goal

pub returns-clause-does : goal.returns-clause-does
returns-clause-does c = record { does = same (as-in-number _ _) (then _ c.numberify-n.ensures.does.does (then _ (c.emit-c1.ensures.does _ (c.of_one.ensures ∙ plain₁ _ _ c.requires.1 refl _)).does c.make_val.ensures.does.does)) }
