-- A character has seven bits, and the library's lower case is that of a name.
use Rattle.std.proofs.Common.{arith}
use mathlib.Core.Path.{◌∙◌, ap}
use Rattle.rules.specs.Parse.{toLowercase}
use Rattle.laws.specs.Texts.{spelled-lt}
use Rattle.names.proofs.Laws.{lowered}
use Rattle.names.proofs.lowercase.Goals as goal

pub overflow_cast-c : goal.overflow_cast-c
overflow_cast-c c = omega (arith, spelled-lt)

pub returns : goal.returns
returns c = c.to_ascii_lowercase.ensures.value ∙ lowered _ ∙ ap toLowercase c.peek.ensures
