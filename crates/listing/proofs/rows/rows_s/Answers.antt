-- Each section has a row, and its instructions have theirs.
use Rattle.std.proofs.Common.{◌∙◌}
use Rattle.text.proofs.Writes.{whole, begin, part, write, room, done}
use Rattle.listing.proofs.SectionRows.{sections-none, sections-more, own-there, left-more}
use Rattle.listing.proofs.rows.rows_s.Goals as goal

pub loop-i-init : goal.loop-i-init
loop-i-init c = (c.requires.0, begin c.args.to.now whole)

pub split_at-requires : goal.split_at-requires
split_at-requires c = own-there _ _ _ c.loop-i-test.true c.loop-i.invariant.0 _ (c.from.ensures ∙ c.count.ensures)

pub row_s-requires : goal.row_s-requires
row_s-requires c = room (part (sections-more _ _ _ c.loop-i-test.true c.loop-i.invariant.0 _ (c.from.ensures ∙ c.count.ensures) c.split_at.ensures.front c.split_at.ensures.back) c.loop-i.invariant.1) c.requires.1

pub rows_i-requires : goal.rows_i-requires
rows_i-requires c = room (write (part (sections-more _ _ _ c.loop-i-test.true c.loop-i.invariant.0 _ (c.from.ensures ∙ c.count.ensures) c.split_at.ensures.front c.split_at.ensures.back) c.loop-i.invariant.1) c.row_s.ensures) c.requires.1

pub loop-i-preserved : goal.loop-i-preserved
loop-i-preserved c = (left-more _ _ _ c.loop-i-test.true c.loop-i.invariant.0 _ (c.from.ensures ∙ c.count.ensures) c.split_at.ensures.back, write (write (part (sections-more _ _ _ c.loop-i-test.true c.loop-i.invariant.0 _ (c.from.ensures ∙ c.count.ensures) c.split_at.ensures.front c.split_at.ensures.back) c.loop-i.invariant.1) c.row_s.ensures) c.rows_i.ensures)

pub returns : goal.returns
returns c = done (part (sections-none _ _ c.loop-i.rest.now c.loop-i-test.false c.loop-i.auto.i-end) c.loop-i.invariant.1)
