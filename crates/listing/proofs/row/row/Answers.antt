-- The letter, the fields and a line feed, one behind the other.
use Rattle.text.proofs.Writes.{begin, write, room, done}
use Rattle.listing.proofs.RowParts.{fields-row}
use Rattle.listing.proofs.row.row.Goals as goal

pub put-requires-2 : goal.put-requires-2
put-requires-2 c = room (write (write (begin c.args.to.now (fields-row _ _)) c.put.ensures) c.put_nums.ensures) c.requires

pub returns : goal.returns
returns c = done (write (write (write (begin c.args.to.now (fields-row _ _)) c.put.ensures) c.put_nums.ensures) c.put-2.ensures)
