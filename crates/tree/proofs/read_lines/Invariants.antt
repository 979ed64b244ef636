-- The lines before this one are read.
use Rattle.std.proofs.Common.{◌++◌, drop}
use Rattle.tree.specs.Files.{LinesMid}
use Rattle.tree.proofs.read_lines.Given as goal

abbrev pub invariant-loop-line : goal.invariant-loop-line
invariant-loop-line l = LinesMid l.names l.lines l.s l.t (l.line-items ++ drop l.lines l.fn.ls) l.initial.d l.d l.line-index
