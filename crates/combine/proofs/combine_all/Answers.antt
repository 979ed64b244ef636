-- What holds of the words in use holds of the tables.
use Rattle.std.proofs.Common.{sym, length-take-le}
use Rattle.combine.proofs.Used.{in-use, full-used, held-used, combined-used}
use Rattle.combine.proofs.combine_all.Goals as goal

pub slice_bounds-collect-end : goal.slice_bounds-collect-end
slice_bounds-collect-end c = in-use _ _ _ _ c.requires.0

pub slice_bounds-collect-end-2 : goal.slice_bounds-collect-end-2
slice_bounds-collect-end-2 c = sym (length-take-le _ _ (in-use _ _ _ _ c.requires.0))

pub collect-requires : goal.collect-requires
collect-requires c = let h = c.requires.0 in (full-used _ _ _ _ h, rw (held-used _ _ _ _ h) c.requires.1)

pub returns : goal.returns
returns c = let h = c.requires.0 in combined-used _ _ _ _ h _ _ _ _ (rw (held-used _ _ _ _ h) at c.collect.ensures)
