-- What is counted, and what the words from here on add, is all that is added.
use Rattle.std.proofs.Common.{◌≡◌, ◌+◌, ◌≤◌, drop}
use Rattle.replace.specs.Pass.{numberOf, stringOf, sums}
use Rattle.replace.proofs.additions.additions.Given as goal

abbrev pub invariant-loop-w : goal.invariant-loop-w
invariant-loop-w l = record {
  numbers-few : l.numbers ≤ l.w-index;
  strings-few : l.strings ≤ l.w-index;
  numbers : l.numbers + sums numberOf (drop l.w-index l.t) ≡ sums numberOf l.t;
  strings : l.strings + sums stringOf (drop l.w-index l.t) ≡ sums stringOf l.t;
}
