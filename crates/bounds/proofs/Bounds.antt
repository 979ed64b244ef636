-- The counts of a parsed tree's machine lie below 65,535.
use Rattle.std.specs.Prelude.{◌≡◌, List, ℕ}
use Rattle.std.proofs.Common.{arith}
use Rattle.rules.specs.Bits.{ok}
use Rattle.rules.specs.Tree.{Tree}
use Rattle.rules.specs.Parse.{parse}
use Rattle.rules.specs.Tables.{countsOf}
use Rattle.rules.specs.Annotate.{fresh}
use Rattle.rules.specs.Lowered.{Options, lowered}
use Rattle.rules.specs.Operations.{sizeOf, estimate}
use Rattle.bounds.specs.LimitsTree.{limits}
use Rattle.bounds.proofs.Own.{annotate-made}
use Rattle.bounds.proofs.Estimate.{estimated}
use Rattle.bounds.specs.Bounds.{few-lines, Small}

-- All counts of the lowered machine are small: far below 65,535.
pub small : (o : Options) (s : List ℕ) (t : Tree) → parse s ≡ ok t → Small (countsOf (lowered o t))
unfolding estimate sizeOf fresh countsOf lowered
small o s t e =
    let l = limits s t e in
    let w = estimated o t in
    let f = few-lines t.lines in
    record {
      some-lines = omega (arith, w.lines, l.some-lines);
      lines = omega (arith, w.lines, l.most-lines);
      sections = omega (arith, w.sections, l.most-lines, l.most-nodes, f.statements);
      instrs = omega (arith, w.instrs, l.most-nodes);
      numbers = omega (arith, w.numbers, l.most-nodes);
      strings = omega (arith, w.strings, l.most-nodes, f.strings);
      pool = omega (arith, w.pool, l.most-chars);
      names = omega (arith, w.names, l.most-names);
      values = omega (arith, (annotate-made t).went.values-most, l.most-nodes);
    }
