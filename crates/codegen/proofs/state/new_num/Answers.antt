-- The number that is stored is the one that the register starts as.
use Rattle.std.proofs.Common.{rules}
use Rattle.codegen.proofs.Laws.{num-does}
use Rattle.codegen.proofs.state.new_num.Goals as goal

pub returns-clause-does : goal.returns-clause-does
returns-clause-does c = num-does c.args.z c.take_num-reg.ensures.0 (search rules) c.take_num-reg.ensures.2
