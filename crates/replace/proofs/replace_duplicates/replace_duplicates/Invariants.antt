-- The sections before this one are replaced.
use Rattle.std.proofs.Common.{◌++◌, drop}
use Rattle.replace.proofs.Sections.{Replacing}
use Rattle.replace.proofs.replace_duplicates.replace_duplicates.Given as goal

abbrev pub invariant-loop-word : goal.invariant-loop-word
invariant-loop-word l =
    Replacing l.fn.sections l.fn.instructions l.fn.numbers l.fn.strings l.n l.e l.fn.c.numbers l.fn.c.strings l.fn.c.characters (l.word-items ++ drop l.n l.fn.sections) l.instructions l.numbers l.strings l.word-index l.from l.done.instructions l.done.numbers l.done.strings
