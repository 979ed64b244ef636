-- What each pass asks holds of a lowered machine.
use Rattle.finish.proofs.Lowered.{clean-asks, combine-asks, passed}
use Rattle.finish.proofs.passes.clean_and_combine.Goals as goal

pub remove_unfixed_sections-r-requires : goal.remove_unfixed_sections-r-requires
remove_unfixed_sections-r-requires c = clean-asks _ _ _ _ c.requires

pub combine_all-left-requires : goal.combine_all-left-requires
combine_all-left-requires c = combine-asks _ _ _ _ c.requires _ _ _ _ c.remove_unfixed_sections-r.ensures

pub returns : goal.returns
returns c = passed _ _ _ _ c.requires _ _ _ _ c.remove_unfixed_sections-r.ensures _ _ _ c.combine_all-left.ensures
