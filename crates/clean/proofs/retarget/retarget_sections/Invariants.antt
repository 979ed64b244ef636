-- Retargeting the words from i on gives the wanted words; the numbers stay.
use Rattle.std.proofs.Common.{◌≡◌, ◌++◌, map, take, drop}
use Rattle.clean.specs.Pass.{firstOf, newNumber, withTarget}
use Rattle.clean.proofs.retarget.retarget_sections.Given as goal

abbrev pub invariant-loop-i : goal.invariant-loop-i
invariant-loop-i l =
    let f = withTarget (newNumber (map firstOf l.fn.sections) l.kept) in
    record {
      same-numbers : map firstOf l.sections ≡ map firstOf l.fn.sections;
      rest : take l.i l.sections ++ map f (drop l.i l.sections) ≡ map f l.fn.sections;
    }
