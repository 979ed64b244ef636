-- Before line k, `sum` counts the lines before it.
use Rattle.program.specs.Script.{CostsMid}
use Rattle.program.proofs.lines.head_costs.Given as goal

abbrev pub invariant-loop-w : goal.invariant-loop-w
invariant-loop-w l = CostsMid l.nodes l.lines l.count l.w-index l.sum
