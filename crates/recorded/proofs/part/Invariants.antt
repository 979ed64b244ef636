-- The place stays inside the text.
use Rattle.std.proofs.Common.{◌≤◌, length}
use Rattle.recorded.proofs.part.Given as goal

abbrev pub invariant-loop : goal.invariant-loop
invariant-loop l = l.at ≤ length l.text
