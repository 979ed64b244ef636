-- The row is that of the counts.
use Rattle.tables.specs.Lent.{countsTold}
use Rattle.text.proofs.Writes.{as-is}
use Rattle.listing.proofs.RowParts.{counts-row}
use Rattle.listing.proofs.row.row_m.Goals as goal

pub row-requires : goal.row-requires
row-requires c = rw (counts-row (countsTold c.args.c)) c.requires

pub returns : goal.returns
returns c = as-is c.row.ensures (counts-row (countsTold c.args.c))
