-- Before the lines' end and behind it.
use Rattle.tables.proofs.Single.{start-early, start-late}
use Rattle.tables.proofs.word.start_fits.Goals as goal

pub returns-then-i-c : goal.returns-then-i-c
returns-then-i-c c = start-early _ _ _ _ c.line_start.ensures c.if-i-c.true

pub returns : goal.returns
returns c = start-late _ _ _ _ c.line_start-2.ensures c.if-i-c.false _ _ c.is_fixed.ensures c.count.ensures
