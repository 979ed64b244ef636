-- A new register and the instruction, one after another.
use Rattle.std.proofs.Common.{◌∙◌, refl}
use Rattle.codegen.proofs.Forms.{as-num}
use Rattle.codegen.proofs.Laws.{then, done, same, plain₂}
use Rattle.codegen.proofs.operators.make_num.Goals as goal

pub returns-clause-does : goal.returns-clause-does
returns-clause-does c = record { does = same (as-num _ _) (then _ c.new_num-n.ensures.does.does (then _ (c.emit.ensures.does _ (c.of_two-w.ensures ∙ plain₂ _ _ c.requires.1 refl _ _)).does done)) }
