-- Each name but those that are marked has a row.
use Rattle.text.proofs.Writes.{whole, begin, part, write, room, done}
use Rattle.listing.proofs.TableRows.{names-none, names-mark, names-more}
use Rattle.listing.proofs.rows.rows_v.Goals.{then-name, else-name}
use Rattle.listing.proofs.rows.rows_v.Goals as goal

pub loop-i-init : goal.loop-i-init
loop-i-init c = begin c.args.to.now whole

pub row_v-requires : goal.row_v-requires
row_v-requires c = room (part (names-more _ _ c.loop-i-test.true c.if-name.true) c.loop-i.invariant) c.requires

pub loop-i-preserved : goal.loop-i-preserved
loop-i-preserved c =
    elim c.if-name.branch [
      | then-name w ↦ rw w.to-is (write (part (names-more _ _ c.loop-i-test.true w.if-name.true) c.loop-i.invariant) w.row_v.ensures)
      | else-name w ↦ rw w.to-is (part (names-mark _ _ c.loop-i-test.true w.if-name.false) c.loop-i.invariant)
    ]

pub returns : goal.returns
returns c = done (part (names-none _ _ c.loop-i-test.false c.loop-i.auto.i-end) c.loop-i.invariant)
