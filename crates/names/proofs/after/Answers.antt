-- A name's length is below 64.
use Rattle.std.proofs.Common.{arith}
use Rattle.names.specs.Names.{nextName, charsOf}
use Rattle.laws.specs.Texts.{spelled-lt}
use Rattle.names.proofs.after.Goals as goal

pub overflow_add-result-2 : goal.overflow_add-result-2
overflow_add-result-2 c = omega (arith, spelled-lt)

pub overflow_mul-result : goal.overflow_mul-result
overflow_mul-result c = omega (arith, spelled-lt)

pub overflow_add-result-3 : goal.overflow_add-result-3
overflow_add-result-3 c = omega (arith, spelled-lt)

pub returns : goal.returns
unfolding nextName charsOf
returns c = omega arith
