-- An operand has a level less.
use Rattle.nodes.proofs.+read_expr.Given as goal

abbrev pub decreases-read_expr : goal.decreases-read_expr
decreases-read_expr l = l.depth
