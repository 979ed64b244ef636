-- A blank, and a `-` or the digits.
use Rattle.std.proofs.Common.{rules}
use Rattle.text.proofs.Writes.{begin, write, room, done}
use Rattle.text.proofs.Parts.{text-first, empty-text, text-is}
use Rattle.text.proofs.Writer.put_text.Goals as goal

pub put-requires : goal.put-requires
put-requires c = room (begin c.args.self.now (text-first _)) c.requires

pub put-requires-in-empty : goal.put-requires-in-empty
put-requires-in-empty c = room (write (begin c.args.self.now (empty-text _ (search rules))) c.put.ensures) c.requires

pub returns-in-empty : goal.returns-in-empty
returns-in-empty c = done (write (write (begin c.args.self.now (empty-text _ (search rules))) c.put.ensures) c.put-in-empty.ensures)

pub put_hex-requires : goal.put_hex-requires
put_hex-requires c = room (write (begin c.args.self.now (text-is _ (search rules))) c.put.ensures) c.requires

pub returns-in_default : goal.returns-in_default
returns-in_default c = done (write (write (begin c.args.self.now (text-is _ (search rules))) c.put.ensures) c.put_hex.ensures)
