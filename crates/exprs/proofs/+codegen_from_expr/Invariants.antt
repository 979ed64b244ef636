-- The operands stand behind, so the nodes that remain fall.
use Rattle.std.proofs.Common.{◌-◌, length}
use Rattle.exprs.proofs.+codegen_from_expr.Given as goal

abbrev pub decreases-codegen_from_expr : goal.decreases-codegen_from_expr
decreases-codegen_from_expr l = length l.nodes.now - l.i
