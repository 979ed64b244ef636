-- Numbering the words from this one on gives the wanted words, and the wanted count.
use Rattle.std.proofs.Common.{◌≡◌, ◌++◌, ◌≤◌, take, drop}
use Rattle.clean.specs.Pass.{bumps, numbered}
use Rattle.clean.proofs.number.number.Given as goal

abbrev pub invariant-loop-word : goal.invariant-loop-word
invariant-loop-word l = record {
  few : l.k ≤ l.word-index;
  rest : take l.word-index l.sections ++ numbered l.k (drop l.word-index l.sections) ≡ numbered 0 l.fn.sections;
  count : bumps l.k (drop l.word-index l.sections) ≡ bumps 0 l.fn.sections;
}
