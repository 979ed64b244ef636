-- The letter, the register, the thousandths and a line feed, one behind the other. A signed number goes by its bits.
use Rattle.std.proofs.Common.{w64}
use mir.ValLaws.{to_z-of_z}
use Rattle.text.proofs.Writes.{begin, write, room, done}
use Rattle.listing.proofs.RowParts.{number-row}
use Rattle.listing.proofs.row.row_n.Goals as goal

pub put_int-requires : goal.put_int-requires
put_int-requires c = rw (to_z-of_z w64 c.args.z c.ranges.z) (room (write (write (begin c.args.to.now (number-row _ _)) c.put.ensures) c.put_num.ensures) c.requires)

pub put-requires-2 : goal.put-requires-2
put-requires-2 c = room (write (write (write (begin c.args.to.now (number-row _ _)) c.put.ensures) c.put_num.ensures) (rw (to_z-of_z w64 c.args.z c.ranges.z) at c.put_int.ensures)) c.requires

pub returns : goal.returns
returns c = done (write (write (write (write (begin c.args.to.now (number-row _ _)) c.put.ensures) c.put_num.ensures) (rw (to_z-of_z w64 c.args.z c.ranges.z) at c.put_int.ensures)) c.put-2.ensures)
