-- The cursor stands at name k, and the words of the names before it are theirs.
use Rattle.std.proofs.Common.{◌≡◌, ◌++◌, drop}
use Rattle.names.specs.Names.{firstName, endAt}
use Rattle.program.specs.Program.{optionsTold}
use Rattle.program.specs.Names.{WordsTo}
use Rattle.program.proofs.name_words.protect_names.Given as goal

abbrev pub invariant-loop-word : goal.invariant-loop-word
invariant-loop-word l = record { place : l.q ≡ endAt l.s l.word-index firstName; words : WordsTo (optionsTold l.options) l.s l.n l.word-index l.fn.names (l.word-items ++ drop l.n l.fn.names) }
