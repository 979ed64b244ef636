-- No statements cost nothing.
use Rattle.std.proofs.Common.{refl, sym, ◌∙◌}
use Rattle.stmts.specs.Parts.{ownCost}
use Rattle.nodes.proofs.Blocks.{is-end}
use Rattle.program.proofs.lines.head_cost.Goals as goal

pub returns-then-count-eq0 : goal.returns-then-count-eq0
unfolding ownCost
returns-then-count-eq0 c = λ s m x z a b h. rw (is-end h (sym c.count.ensures ∙ c.if-count-eq0.true)).is refl
