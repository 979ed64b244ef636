-- The sections are packed up to i.
use Rattle.clean.proofs.Packing.{Packing}
use Rattle.clean.proofs.pack.pack_down.Given as goal

abbrev pub invariant-loop-i : goal.invariant-loop-i
invariant-loop-i l = Packing l.fn.sections l.fn.instructions l.sections l.instructions l.i l.m l.a l.b
