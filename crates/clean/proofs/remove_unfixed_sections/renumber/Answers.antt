-- The numbers that the words carry are those of `rank`.
use Rattle.clean.proofs.Whole.{renumbered}
use Rattle.clean.proofs.remove_unfixed_sections.renumber.Goals as goal

pub returns : goal.returns
returns c = renumbered _ _ c.requires _ _ c.number-kept.ensures _ _ c.retarget_instructions.ensures c.retarget_sections.ensures
