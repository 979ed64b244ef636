-- Bits that are passed over are characters.
use Rattle.bits.proofs.Gives.{pass-chars}
use Rattle.bits.proofs.Cursor.skip.Goals as goal

pub returns : goal.returns
returns c = pass-chars _ _ c.requires.0 c.pass.ensures
