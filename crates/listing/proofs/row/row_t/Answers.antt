-- The letter, the register, the length, the text and a line feed, one behind the other.
use Rattle.text.proofs.Writes.{begin, write, room, done}
use Rattle.listing.proofs.RowParts.{text-row}
use Rattle.listing.proofs.row.row_t.Goals as goal

pub put_num-requires-2 : goal.put_num-requires-2
put_num-requires-2 c = room (write (write (begin c.args.to.now (text-row _ _)) c.put.ensures) c.put_num.ensures) c.requires

pub put_text-requires : goal.put_text-requires
put_text-requires c = room (write (write (write (begin c.args.to.now (text-row _ _)) c.put.ensures) c.put_num.ensures) c.put_num-2.ensures) c.requires

pub put-requires-2 : goal.put-requires-2
put-requires-2 c = room (write (write (write (write (begin c.args.to.now (text-row _ _)) c.put.ensures) c.put_num.ensures) c.put_num-2.ensures) c.put_text.ensures) c.requires

pub returns : goal.returns
returns c = done (write (write (write (write (write (begin c.args.to.now (text-row _ _)) c.put.ensures) c.put_num.ensures) c.put_num-2.ensures) c.put_text.ensures) c.put-2.ensures)
