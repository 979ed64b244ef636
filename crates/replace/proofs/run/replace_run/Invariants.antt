-- The run is replaced up to i.
use Rattle.replace.proofs.Runs.{Running}
use Rattle.replace.proofs.run.replace_run.Given as goal

abbrev pub invariant-loop-i : goal.invariant-loop-i
invariant-loop-i l =
    Running l.characters l.fn.instructions l.fn.numbers l.fn.strings l.fn.at.instructions l.fn.at.numbers l.fn.at.strings l.from l.to l.instructions l.numbers l.strings l.i l.done.instructions l.done.numbers l.done.strings
