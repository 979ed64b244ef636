-- A name with a register changes nothing; a fresh one gets a new register, which is kept for it.
use Rattle.codegen.proofs.Laws.{name-known, name-fresh}
use Rattle.codegen.proofs.state.get_variable.Goals as goal

pub returns-then-v-clause-does : goal.returns-then-v-clause-does
returns-then-v-clause-does c = λ n h. record { does = name-known c.args.x h c.if-v.true }

pub returns-clause-does : goal.returns-clause-does
returns-clause-does c = λ n h. record { does = name-fresh c.args.x h c.if-v.false c.requires.1 c.new_val-n.ensures.does }
