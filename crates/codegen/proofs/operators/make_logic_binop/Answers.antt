-- Right, left, the operator and the value, one after another.
use Rattle.std.proofs.Common.{◌∙◌, refl}
use Rattle.codegen.proofs.Forms.{as-logic}
use Rattle.codegen.proofs.Laws.{then, same, plain₂}
use Rattle.codegen.proofs.operators.make_logic_binop.Goals as goal

pub returns-clause-does : goal.returns-clause-does
returns-clause-does c = record { does = same (as-logic _ _ _) (then _ c.make_truthy-m.ensures.does.does (then _ c.make_truthy-n.ensures.does.does (then _ (c.emit-c1.ensures.does _ (c.of_two.ensures ∙ plain₂ _ _ c.requires.1 refl _ _)).does c.make_val.ensures.does.does))) }
