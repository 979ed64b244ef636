-- Each text has a row.
use Rattle.std.proofs.Common.{arith, ◌∙◌}
use Rattle.text.proofs.Writes.{whole, begin, part, write, room, done}
use Rattle.listing.proofs.TableRows.{texts-none, texts-more}
use Rattle.listing.proofs.rows.rows_t.Goals as goal

pub loop-i-init : goal.loop-i-init
loop-i-init c = begin c.args.to.now whole

pub row_t-requires : goal.row_t-requires
row_t-requires c = room (part (texts-more _ _ _ c.loop-i-test.true _ _ (c.from-start.ensures ∙ c.start.ensures) (c.from.ensures ∙ c.length.ensures) (omega (arith, c.requires.0 c.loop-i.i c.loop-i-test.true))) c.loop-i.invariant) c.requires.1

pub loop-i-preserved : goal.loop-i-preserved
loop-i-preserved c = write (part (texts-more _ _ _ c.loop-i-test.true _ _ (c.from-start.ensures ∙ c.start.ensures) (c.from.ensures ∙ c.length.ensures) (omega (arith, c.requires.0 c.loop-i.i c.loop-i-test.true))) c.loop-i.invariant) c.row_t.ensures

pub returns : goal.returns
returns c = done (part (texts-none _ _ _ c.loop-i-test.false c.loop-i.auto.i-end) c.loop-i.invariant)
