-- The bytes stand where they were copied to.
use Rattle.std.proofs.Common.{arith, refl}
use Rattle.text.proofs.Writes.{copied}
use Rattle.text.proofs.Writer.put_bytes.Goals as goal

pub returns : goal.returns
returns c = record { same_reference = refl; wrote = copied _ _ c.requires (omega arith) c.copy_from_slice.ensures.after }
