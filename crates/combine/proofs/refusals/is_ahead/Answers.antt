-- No successor is a section; the word there says; or it is past the sections.
use Rattle.std.proofs.Common.{arith}
use Rattle.combine.proofs.Ways.{ahead-none, ahead-past, ahead-there}
use Rattle.combine.proofs.refusals.is_ahead.Goals as goal

pub returns-in_default : goal.returns-in_default
returns-in_default c = ahead-none _ _ _ _ c.in_default.ensures

pub returns-in-Some-get : goal.returns-in-Some-get
returns-in-Some-get c =
    let l = c.in-Some-get.ensures.lookup in
    ahead-there _ _ _ _ c.from-at.result (rw (← c.from-at.ensures) at c.in-Some.ensures) l.3.0 _ (rw (l.4 (omega arith) 0) at c.line_start.ensures)

pub returns-in-None : goal.returns-in-None
returns-in-None c = ahead-past _ _ _ _ c.from-at.result (rw (← c.from-at.ensures) at c.in-Some.ensures) c.in-None.ensures.lookup.3
