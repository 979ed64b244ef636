-- Before line k, whatever the lines from k on do, the whole then does. The tables keep their lengths.
use Rattle.codegen.specs.Does.{lent}
use Rattle.stmts.specs.Lists.{SameLengths}
use Rattle.program.specs.Script.{LinesMid}
use Rattle.program.proofs.lines.codegen_from_lines.Given as goal

abbrev pub invariant-loop-k : goal.invariant-loop-k
invariant-loop-k l =
    record {
      same : SameLengths (lent l.initial.instrs l.initial.numbers l.initial.strings l.initial.pool l.initial.names) (lent l.instrs l.numbers l.strings l.pool l.names) l.initial.sections l.sections;
      mid : LinesMid l.s l.nodes l.lines l.count l.initial.done.number.0 l.initial.done.head l.initial.done.next (lent l.initial.instrs l.initial.numbers l.initial.strings l.initial.pool l.initial.names) l.initial.sections l.k l.done.number.0 l.done.head l.done.next (lent l.instrs l.numbers l.strings l.pool l.names) l.sections;
    }
