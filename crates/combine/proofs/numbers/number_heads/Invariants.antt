-- The heads below t are counted, and each section below t has its number.
use Rattle.std.proofs.Common.{◌≡◌, ℕ, ◌<◌, ◌≤◌, get_or}
use Rattle.gather.specs.Gather.{rankBy}
use Rattle.combine.specs.Counting.{headBy}
use Rattle.combine.proofs.numbers.number_heads.Given as goal

abbrev pub invariant-loop-t : goal.invariant-loop-t
invariant-loop-t l =
    record {
      heads : l.heads ≡ rankBy (headBy l.counts) l.t;
      fewer : l.heads ≤ l.t;
      numbers : (u : ℕ) → u < l.t → get_or l.numbers u 0 ≡ rankBy (headBy l.counts) u;
    }
