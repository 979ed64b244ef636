-- The heads below t are written, each by its chain in the machine m.
use Rattle.combine.proofs.Writing.{Writing}
use Rattle.combine.proofs.write.write_heads.Given as goal

abbrev pub ghost-store_chain : goal.ghost-store_chain
ghost-store_chain g a = g.m

abbrev pub invariant-loop-t : goal.invariant-loop-t
invariant-loop-t g l = Writing g.m l.sections l.fn.places l.places l.code l.t
