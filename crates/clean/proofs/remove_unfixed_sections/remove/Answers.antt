-- Renumbered, then packed.
use Rattle.std.proofs.Common.{arith}
use Rattle.clean.proofs.Whole.{pack-total, removed}
use Rattle.clean.proofs.remove_unfixed_sections.remove.Goals as goal

pub pack-requires : goal.pack-requires
pack-requires c = (omega (arith, c.requires.1, c.renumber.auto.instructions), pack-total _ _ c.requires.0 c.requires.2 _ _ c.renumber.ensures)

pub returns : goal.returns
returns c = removed _ _ c.requires.0 c.requires.2 _ _ c.renumber.ensures _ _ _ _ c.pack.ensures
