-- Each number has a row.
use Rattle.std.proofs.Common.{rules}
use Rattle.text.proofs.Writes.{whole, begin, part, write, room, done}
use Rattle.listing.proofs.TableRows.{numbers-none, numbers-more}
use Rattle.listing.proofs.rows.rows_n.Goals as goal

pub loop-i-init : goal.loop-i-init
loop-i-init c = begin c.args.to.now whole

pub row_n-requires : goal.row_n-requires
row_n-requires c = room (part (numbers-more _ _ c.loop-i-test.true (search rules)) c.loop-i.invariant) c.requires

pub loop-i-preserved : goal.loop-i-preserved
loop-i-preserved c = write (part (numbers-more _ _ c.loop-i-test.true (search rules)) c.loop-i.invariant) c.row_n.ensures

pub returns : goal.returns
returns c = done (part (numbers-none _ _ c.loop-i-test.false c.loop-i.auto.i-end) c.loop-i.invariant)
