-- The heads below t stand in front; from t on the words are as they were.
use Rattle.combine.proofs.Picks.{Keeping}
use Rattle.combine.proofs.write.keep_heads.Given as goal

abbrev pub invariant-loop-t : goal.invariant-loop-t
invariant-loop-t l = Keeping l.fn.sections l.sections l.counts l.t l.left
