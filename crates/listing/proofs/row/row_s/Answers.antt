-- The row is that of the section's word.
use Rattle.std.proofs.Common.{◌∙◌}
use Rattle.text.proofs.Writes.{as-is}
use Rattle.listing.proofs.RowParts.{section_row}
use Rattle.listing.proofs.row.row_s.Goals as goal

pub row-requires : goal.row-requires
row-requires c = rw (section_row c.args.i c.args.w.0 c.from-start.ensures c.line_start.ensures c.kind-kind.ensures (c.from.ensures ∙ c.target.ensures) (c.from-2.ensures ∙ c.count.ensures)) c.requires

pub returns : goal.returns
returns c = as-is c.row.ensures (section_row c.args.i c.args.w.0 c.from-start.ensures c.line_start.ensures c.kind-kind.ensures (c.from.ensures ∙ c.target.ensures) (c.from-2.ensures ∙ c.count.ensures))
