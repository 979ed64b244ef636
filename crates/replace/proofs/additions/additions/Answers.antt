-- At the end no word is left, and each of them added one at most.
use Rattle.std.proofs.Common.{arith}
use Rattle.std.proofs.Math.Seq.{take-length}
use Rattle.replace.specs.Pass.{numberOf, stringOf}
use Rattle.replace.proofs.Adding.{sums_end}
use Rattle.replace.proofs.additions.additions.Goals as goal

pub returns : goal.returns
returns c =
    let l = c.loop-w.invariant in
    let e = take-length c.args.t.now in
    let n = sums_end numberOf _ _ c.loop-w-test.false in
    let s = sums_end stringOf _ _ c.loop-w-test.false in
    record { numbers = rw e (omega arith); strings = rw e (omega arith); numbers-few = omega arith; strings-few = omega arith }
