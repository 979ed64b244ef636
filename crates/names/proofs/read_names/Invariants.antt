-- k names are read.
use Rattle.names.specs.Names.{NamesMid}
use Rattle.names.proofs.read_names.Given as goal

abbrev pub invariant-loop-k : goal.invariant-loop-k
invariant-loop-k l = NamesMid l.n l.s l.c l.d l.k
