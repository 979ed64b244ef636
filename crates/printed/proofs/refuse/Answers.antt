-- The row is written from the first byte on.
use Rattle.std.proofs.Common.{rules, arith}
use Rattle.text.proofs.Writes.{at-end, from-start}
use Rattle.printed.proofs.refuse.Goals as goal

pub row_r-requires : goal.row_r-requires
row_r-requires c = rw (c.new-to.ensures.bytes, c.new-to.ensures.none, c.number.ensures) (omega (arith, c.requires))

pub returns : goal.returns
returns c =
    let w = rw c.number.ensures at c.row_r.ensures in
    from-start c.new-to.ensures.bytes c.new-to.ensures.none (omega (arith, c.requires)) (at-end c.new-to.ensures.same_reference (search rules) w) w
