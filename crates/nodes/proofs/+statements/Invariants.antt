-- A statement's lists have a level less; a list's statements have the same, so that they count as one more and the list as two.
-- Midway through the statements the table is as long as it was, and what was read goes before what is left.
use Rattle.std.proofs.Common.{◌+◌, ◌-◌, ◌*◌}
use Rattle.nodes.specs.Builds.{Midway}
use Rattle.nodes.proofs.+statements.Given as goal

abbrev pub decreases-read_list : goal.decreases-read_list
decreases-read_list l = 3 * l.depth + 2

abbrev pub decreases-read_block : goal.decreases-read_block
decreases-read_block l = 3 * l.depth + 1

abbrev pub decreases-read_stmt : goal.decreases-read_stmt
decreases-read_stmt l = 3 * l.depth

abbrev pub invariant-read_block-loop : goal.invariant-read_block-loop
invariant-read_block-loop l = Midway l.names l.depth l.s l.initial.t l.t l.initial.d l.d l.count (l.count - l.counter)
