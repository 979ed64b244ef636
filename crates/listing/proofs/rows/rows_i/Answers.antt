-- Each instruction has a row.
use Rattle.text.proofs.Writes.{whole, begin, part, write, room, done}
use Rattle.listing.proofs.TableRows.{instrs-none, instrs-more}
use Rattle.listing.proofs.rows.rows_i.Goals as goal

pub loop-word-init : goal.loop-word-init
loop-word-init c = begin c.args.to.now whole

pub row_i-requires : goal.row_i-requires
row_i-requires c = room (part (instrs-more _ _ c.loop-word-test.true) c.loop-word.invariant) c.requires

pub loop-word-preserved : goal.loop-word-preserved
loop-word-preserved c = write (part (instrs-more _ _ c.loop-word-test.true) c.loop-word.invariant) c.row_i.ensures

pub returns : goal.returns
returns c = done (part (instrs-none _ _ c.loop-word-test.false c.loop-word.auto.word-index-end) c.loop-word.invariant)
