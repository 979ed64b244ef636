-- The numbers from the index on are left to write.
use Rattle.std.proofs.Common.{[], ◌∷◌, drop}
use Rattle.text.specs.Numbers.{nums}
use Rattle.text.proofs.Writes.{Left}
use Rattle.text.proofs.Writer.put_nums.Given as goal

abbrev pub invariant-loop-v : goal.invariant-loop-v
invariant-loop-v l = Left l.fn.self (nums l.vs) l.self (nums (drop l.v-index l.vs) ∷ [])
