-- A machine that keeps the rules has its counts and runs in order.
use Rattle.std.proofs.Common.{sym, ◌∙◌, arith, length-take-le}
use Rattle.tables.proofs.Sound.{counts_kept}
use Rattle.clean.proofs.Cleans.{covered}
use Rattle.clean.proofs.clean.clean.Goals as goal

pub slice_bounds-all_fixed-end-2 : goal.slice_bounds-all_fixed-end-2
slice_bounds-all_fixed-end-2 c =
    let k = counts_kept _ _ (sym c.check.ensures ∙ c.if-not-check.false) in
    sym (length-take-le _ _ (omega (arith, k.lines, k.sections)))

pub slice_bounds-jumps_fixed-end-2 : goal.slice_bounds-jumps_fixed-end-2
slice_bounds-jumps_fixed-end-2 c = sym (length-take-le _ _ (counts_kept _ _ (sym c.check.ensures ∙ c.if-not-check.false)).sections)

pub slice_bounds-jumps_fixed-end-4 : goal.slice_bounds-jumps_fixed-end-4
slice_bounds-jumps_fixed-end-4 c = sym (length-take-le _ _ (counts_kept _ _ (sym c.check.ensures ∙ c.if-not-check.false)).instrs)

pub remove_unfixed_sections-r-requires : goal.remove_unfixed_sections-r-requires
remove_unfixed_sections-r-requires c =
    let h = sym c.check.ensures ∙ c.if-not-check.false in
    let k = counts_kept _ _ h in
    (k.sections, k.sections-few, k.instrs, k.instrs-few, covered _ _ h)
