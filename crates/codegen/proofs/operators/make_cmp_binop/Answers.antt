-- A new number, the test and the value, one after another.
use Rattle.std.proofs.Common.{◌∙◌, refl}
use Rattle.codegen.proofs.Forms.{as-cmp}
use Rattle.codegen.proofs.Laws.{then, same, plain₃}
use Rattle.codegen.proofs.operators.make_cmp_binop.Goals as goal

pub returns-clause-does : goal.returns-clause-does
returns-clause-does c = record { does = same (as-cmp _ _ _) (then _ c.new_num-n.ensures.does.does (then _ (c.emit-c1.ensures.does _ (c.of_three.ensures ∙ plain₃ _ _ c.requires.1 refl _ _ _)).does c.make_val.ensures.does.does)) }
