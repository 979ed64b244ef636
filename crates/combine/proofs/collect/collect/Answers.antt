-- What the places hold in the end is the lent table.
use Rattle.std.proofs.Common.{rules}
use Rattle.combine.proofs.Collected.{in-table}
use Rattle.combine.proofs.collect.collect.Goals as goal

pub collect_by_size-requires : goal.collect_by_size-requires
collect_by_size-requires c = let p = c.over-places.ensures in (rw p.words c.requires, p.at_start)

pub returns : goal.returns
returns c = let p = c.over-places.ensures in in-table _ _ _ _ _ _ _ _ c.collect_by_size.ensures p.words p.same_reference (search rules)
