-- A blank, a `-` if below zero, and the digits.
use Rattle.std.proofs.Common.{refl}
use Rattle.text.proofs.Writes.{begin, write, room, done}
use Rattle.text.proofs.Parts.{int-first, neg-parts, pos-parts}
use Rattle.text.proofs.Writer.put_int.Goals.{then-z-lt0, else-z-lt0}
use Rattle.text.proofs.Writer.put_int.Goals as goal

pub put-requires : goal.put-requires
put-requires c = room (begin c.args.self.now (int-first _)) c.requires

pub put-requires-then-z-lt0 : goal.put-requires-then-z-lt0
put-requires-then-z-lt0 c = room (write (begin c.args.self.now (neg-parts _ c.ranges.z c.if-z-lt0.true refl)) c.put.ensures) c.requires

pub put_digits-requires : goal.put_digits-requires
put_digits-requires c =
    elim c.if-z-lt0.branch [
      | then-z-lt0 w ↦ rw w.self-is (room (write (write (begin c.args.self.now (neg-parts _ c.ranges.z w.if-z-lt0.true c.unsigned_abs.ensures.value)) c.put.ensures) w.put-then-z-lt0.ensures) c.requires)
      | else-z-lt0 w ↦ rw w.self-is (room (write (begin c.args.self.now (pos-parts _ c.ranges.z w.if-z-lt0.false c.unsigned_abs.ensures.value)) c.put.ensures) c.requires)
    ]

pub returns : goal.returns
returns c =
    elim c.if-z-lt0.branch [
      | then-z-lt0 w ↦ done (write (write (write (begin c.args.self.now (neg-parts _ c.ranges.z w.if-z-lt0.true c.unsigned_abs.ensures.value)) c.put.ensures) w.put-then-z-lt0.ensures) (rw w.self-is at c.put_digits.ensures))
      | else-z-lt0 w ↦ done (write (write (begin c.args.self.now (pos-parts _ c.ranges.z w.if-z-lt0.false c.unsigned_abs.ensures.value)) c.put.ensures) (rw w.self-is at c.put_digits.ensures))
    ]
