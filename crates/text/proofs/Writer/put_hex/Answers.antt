-- Each character has two digits, of which each is a part that is left.
use Rattle.std.proofs.Common.{refl}
use Rattle.text.proofs.Writes.{whole, begin, part, write, room, done}
use Rattle.text.proofs.Parts.{hex-more, hex-none}
use Rattle.text.proofs.Writer.put_hex.Goals as goal

pub loop-c-init : goal.loop-c-init
loop-c-init c = begin c.args.self.now whole

pub put-requires : goal.put-requires
put-requires c = room (part (hex-more _ _ c.loop-c-test.true c.hex_digit.ensures refl) c.loop-c.invariant) c.requires

pub put-requires-in-loop-c : goal.put-requires-in-loop-c
put-requires-in-loop-c c = room (write (part (hex-more _ _ c.loop-c-test.true c.hex_digit.ensures c.hex_digit-in-loop-c.ensures) c.loop-c.invariant) c.put.ensures) c.requires

pub loop-c-preserved : goal.loop-c-preserved
loop-c-preserved c = write (write (part (hex-more _ _ c.loop-c-test.true c.hex_digit.ensures c.hex_digit-in-loop-c.ensures) c.loop-c.invariant) c.put.ensures) c.put-in-loop-c.ensures

pub returns : goal.returns
returns c = done (part (hex-none _ _ c.loop-c-test.false c.loop-c.auto.c-index-end) c.loop-c.invariant)
