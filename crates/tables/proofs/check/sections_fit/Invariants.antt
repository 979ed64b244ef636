-- The words from i on pass as all of them do, if the next run begins at k.
use Rattle.rules.specs.Constants.{mostCount}
use Rattle.std.proofs.Common.{◌≡◌, ◌*◌, ◌≤◌, take, drop}
use Rattle.rules.specs.Tables.{runsFit}
use Rattle.tables.specs.Lent.{countsTold}
use Rattle.tables.proofs.check.sections_fit.Given as goal

abbrev pub invariant-loop-i : goal.invariant-loop-i
invariant-loop-i l = record {
  small : l.k ≤ l.i * mostCount;
  rest : runsFit (countsTold l.c) l.i l.k (drop l.i (take l.c.sections l.t)) ≡ runsFit (countsTold l.c) 0 0 (take l.c.sections l.t);
}
