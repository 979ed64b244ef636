-- The parts of the listing are written one behind the other.
use Rattle.std.proofs.Common.{rules, sym}
use Rattle.std.proofs.Math.Seq.{length-take-le}
use Rattle.tables.proofs.Sound.{sound}
use Rattle.text.proofs.Writes.{write, room, done, at-end}
use Rattle.listing.proofs.Machines.{inside, covered, starts, room-for, listed}
use Rattle.listing.proofs.listing.listing.Goals as goal

pub slice_bounds-rows_n-end : goal.slice_bounds-rows_n-end
slice_bounds-rows_n-end c = sym (length-take-le _ _ (sound _ _ c.requires.machine).counts.numbers)

pub slice_bounds-rows_t-end : goal.slice_bounds-rows_t-end
slice_bounds-rows_t-end c = sym (length-take-le _ _ (sound _ _ c.requires.machine).counts.strings)

pub slice_bounds-rows_t-end-2 : goal.slice_bounds-rows_t-end-2
slice_bounds-rows_t-end-2 c = sym (length-take-le _ _ (sound _ _ c.requires.machine).counts.pool)

pub slice_bounds-rows_v-end : goal.slice_bounds-rows_v-end
slice_bounds-rows_v-end c = sym (length-take-le _ _ (sound _ _ c.requires.machine).counts.names)

pub slice_bounds-rows_s-end : goal.slice_bounds-rows_s-end
slice_bounds-rows_s-end c = sym (length-take-le _ _ (sound _ _ c.requires.machine).counts.sections)

pub slice_bounds-rows_s-end-2 : goal.slice_bounds-rows_s-end-2
slice_bounds-rows_s-end-2 c = sym (length-take-le _ _ (sound _ _ c.requires.machine).counts.instrs)

pub row_m-requires : goal.row_m-requires
row_m-requires c = room (starts c.requires c.new-to.result c.new-to.ensures.bytes c.new-to.ensures.none) (room-for c.requires c.new-to.result c.new-to.ensures.bytes c.new-to.ensures.none)

pub rows_n-requires : goal.rows_n-requires
rows_n-requires c = room (write (starts c.requires c.new-to.result c.new-to.ensures.bytes c.new-to.ensures.none) c.row_m.ensures) (room-for c.requires c.new-to.result c.new-to.ensures.bytes c.new-to.ensures.none)

pub rows_t-requires : goal.rows_t-requires
rows_t-requires c = (inside c.requires c.new-to.result c.new-to.ensures.bytes c.new-to.ensures.none, room (write (write (starts c.requires c.new-to.result c.new-to.ensures.bytes c.new-to.ensures.none) c.row_m.ensures) c.rows_n.ensures) (room-for c.requires c.new-to.result c.new-to.ensures.bytes c.new-to.ensures.none))

pub rows_v-requires : goal.rows_v-requires
rows_v-requires c = room (write (write (write (starts c.requires c.new-to.result c.new-to.ensures.bytes c.new-to.ensures.none) c.row_m.ensures) c.rows_n.ensures) c.rows_t.ensures) (room-for c.requires c.new-to.result c.new-to.ensures.bytes c.new-to.ensures.none)

pub rows_s-requires : goal.rows_s-requires
rows_s-requires c = (covered c.requires c.new-to.result c.new-to.ensures.bytes c.new-to.ensures.none, room (write (write (write (write (starts c.requires c.new-to.result c.new-to.ensures.bytes c.new-to.ensures.none) c.row_m.ensures) c.rows_n.ensures) c.rows_t.ensures) c.rows_v.ensures) (room-for c.requires c.new-to.result c.new-to.ensures.bytes c.new-to.ensures.none))

pub returns : goal.returns
returns c =
    let d = done (write (write (write (write (write (starts c.requires c.new-to.result c.new-to.ensures.bytes c.new-to.ensures.none) c.row_m.ensures) c.rows_n.ensures) c.rows_t.ensures) c.rows_v.ensures) c.rows_s.ensures) in
    listed c.requires c.new-to.result c.new-to.ensures.bytes c.new-to.ensures.none (at-end c.new-to.ensures.same_reference (search rules) d) d
