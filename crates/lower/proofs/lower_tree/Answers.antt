-- The tree has room in the instructions that are lent; the machine before replacement may be replaced, and zeros behind it give what lowering
-- leaves.
use Rattle.std.proofs.Common.{sym, arith}
use lib.Seq.{length-take-le}
use Rattle.lower.proofs.Steps.{rooms, tree-ready, assembled, replace-ready, sections-within, numbers-within, lower-done}
use Rattle.lower.proofs.lower_tree.Goals as goal

pub slice_bounds-codegen_from_program-end-2 : goal.slice_bounds-codegen_from_program-end-2
slice_bounds-codegen_from_program-end-2 c = sym (length-take-le _ _ (rooms _ _ c.requires.room).instrs)

pub codegen_from_program-c-requires : goal.codegen_from_program-c-requires
codegen_from_program-c-requires c = tree-ready _ _ _ _ _ c.requires _ (length-take-le _ _ (rooms _ _ c.requires.room).instrs)

pub replace_duplicates-done-requires : goal.replace_duplicates-done-requires
replace_duplicates-done-requires c = replace-ready (assembled _ _ _ _ _ _ c.requires _ _ c.codegen_from_program-c.ensures c.codegen_from_program-c.auto.instrs)

pub zero-requires : goal.zero-requires
zero-requires c =
    let a = sections-within (assembled _ _ _ _ _ _ c.requires _ _ c.codegen_from_program-c.ensures c.codegen_from_program-c.auto.instrs) in
    let b = rooms _ _ c.requires.room in
    (omega arith, omega arith)

pub zero-requires-2 : goal.zero-requires-2
zero-requires-2 c =
    let a = assembled _ _ _ _ _ _ c.requires _ _ c.codegen_from_program-c.ensures c.codegen_from_program-c.auto.instrs in
    let b = rooms _ _ c.requires.room in
    (a.within, omega arith)

pub zero-requires-3 : goal.zero-requires-3
zero-requires-3 c =
    let a = numbers-within (assembled _ _ _ _ _ _ c.requires _ _ c.codegen_from_program-c.ensures c.codegen_from_program-c.auto.instrs) in
    let b = rooms _ _ c.requires.room in
    (omega arith, omega arith)

pub returns : goal.returns
returns c =
    lower-done (assembled _ _ _ _ _ _ c.requires _ _ c.codegen_from_program-c.ensures c.codegen_from_program-c.auto.instrs) _ _ _ _ _ _ _
    c.replace_duplicates-done.ensures c.requires.room _ _ _ c.zero.ensures c.zero-2.ensures c.zero-3.ensures
