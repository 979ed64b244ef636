-- The remaining depth falls at each Ite; between two of them the functions stand in the order branch, list, statement, inside, lists.
-- Midway through a list, its others are held and ready, and the list is lowered once they are.
use Rattle.std.proofs.Common.{◌≡◌, ◌+◌, ◌-◌, ◌*◌}
use Rattle.codegen.specs.Does.{lent}
use Rattle.stmts.specs.Lists.{ListMid}
use Rattle.stmts.proofs.stmt.+codegen_and_link_stmts_codegen_from_branch_codegen_from_inside_codegen_from_lists_codegen_from_stmt.Given as goal

abbrev pub decreases-codegen_and_link_stmts : goal.decreases-codegen_and_link_stmts
decreases-codegen_and_link_stmts l = 5 * l.depth + 3

abbrev pub decreases-codegen_from_branch : goal.decreases-codegen_from_branch
decreases-codegen_from_branch l = 5 * l.depth + 4

abbrev pub decreases-codegen_from_inside : goal.decreases-codegen_from_inside
decreases-codegen_from_inside l = 5 * l.depth + 1

abbrev pub decreases-codegen_from_lists : goal.decreases-codegen_from_lists
decreases-codegen_from_lists l = 5 * l.depth

abbrev pub decreases-codegen_from_stmt : goal.decreases-codegen_from_stmt
decreases-codegen_from_stmt l = 5 * l.depth + 2

abbrev pub invariant-codegen_and_link_stmts-loop-done :
    goal.invariant-codegen_and_link_stmts-loop-done
invariant-codegen_and_link_stmts-loop-done l = record {
  left_to : l.here.next.0 ≡ l.fn.link.next.0;
  mid : ListMid l.s l.nodes l.fn.i l.fn.count l.depth l.fn.link.linked l.fn.link.number.0 l.fn.link.next.0 l.fn.c (lent l.fn.instrs l.fn.numbers l.fn.strings l.fn.pool l.fn.names) l.fn.sections
      l.at (l.count - l.done) l.here.linked l.here.number.0 l.d (lent l.instrs l.numbers l.strings l.pool l.names) l.sections;
}
