-- Each way out is one of Whole.
use Rattle.std.proofs.Common.{sym, rules, length-take-le}
use Rattle.combine.proofs.Whole.{combine-12, keeps, few-sections, combine-14, combine-15, no-links-back, combine-done}
use Rattle.combine.proofs.Again.{fits-sound}
use Rattle.combine.proofs.combine.Goals as goal

pub returns-then-not-check : goal.returns-then-not-check
returns-then-not-check c = combine-12 _ _ (sym c.if-not-check.ensures)

pub slice_bounds-all_fixed-end : goal.slice_bounds-all_fixed-end
slice_bounds-all_fixed-end c = few-sections _ _ (sym c.if-not-check.ensures)

pub slice_bounds-all_fixed-end-2 : goal.slice_bounds-all_fixed-end-2
slice_bounds-all_fixed-end-2 c = sym (length-take-le _ _ (few-sections _ _ (sym c.if-not-check.ensures)))

pub returns-then-not-all_fixed : goal.returns-then-not-all_fixed
returns-then-not-all_fixed c = combine-14 _ _ (sym c.if-not-check.ensures) c.if-not-all_fixed.ensures

pub slice_bounds-all_ahead-end : goal.slice_bounds-all_ahead-end
slice_bounds-all_ahead-end c = few-sections _ _ (sym c.if-not-check.ensures)

pub slice_bounds-all_ahead-end-2 : goal.slice_bounds-all_ahead-end-2
slice_bounds-all_ahead-end-2 c = sym (length-take-le _ _ (few-sections _ _ (sym c.if-not-check.ensures)))

pub returns-then-not-all_ahead : goal.returns-then-not-all_ahead
returns-then-not-all_ahead c = combine-15 _ _ (sym c.if-not-check.ensures) c.if-not-all_fixed.ensures c.if-not-all_ahead.ensures

pub combine_all-left-requires : goal.combine_all-left-requires
combine_all-left-requires c =
    let k = sym c.if-not-check.ensures in
    (fits-sound _ _ (keeps _ _ k) (search rules) (search rules), no-links-back _ _ k c.if-not-all_fixed.ensures c.if-not-all_ahead.ensures)

pub returns : goal.returns
returns c = rw c.with_code.ensures (combine-done _ _ (sym c.if-not-check.ensures) c.if-not-all_fixed.ensures c.if-not-all_ahead.ensures (search rules) _ _ _ c.combine_all-left.ensures)
