-- In the counted words, and so in the whole tables.
use Rattle.clean.proofs.Whole.{cleaned-whole}
use Rattle.clean.proofs.remove_unfixed_sections.remove_unfixed_sections.Goals as goal

pub returns : goal.returns
returns c = cleaned-whole _ _ _ _ c.requires.0 c.requires.2 _ _ _ _ c.remove.ensures
